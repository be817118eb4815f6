-- What the sentences of rules begin with.
use Rattle.std.proofs.Common.{◌≡◌, inl, inr, ℕ, Bool, true, false, ◌||◌, ◌&&◌, not, List, ◌++◌, refl}
use Rattle.ruby_types.specs.declared.tree.Expr.{Expr}
use Rattle.ruby_types.specs.declared.tree.Stmt.{Stmt}
use Rattle.descent.specs.Grammar.{Prod, Among}
use Rattle.descent.proofs.Starts.{Firsts, Starts}
use Rattle.ruby_grammar.specs.Words.{Word}
use Rattle.ruby_grammar.specs.Terminals.{Level, units, products, sums, comparisons, equalities, conjunctions}
use Rattle.ruby_grammar.specs.Terminals.{disjunctions}
use Rattle.ruby_grammar.specs.Terminals.{is_variable, is_name, is_self, is_less, is_line, is_path, is_const}
use Rattle.ruby_grammar.specs.Terminals.{is_open_paren}
use Rattle.ruby_grammar.specs.Terminals.{is_return, is_raise, is_then, is_end, is_else, is_elsif, is_label, is_if}
use Rattle.ruby_grammar.specs.Terminals.{is_unless, is_int, is_text_open, is_sym, is_nil, is_true, is_false, is_ivar}
use Rattle.ruby_grammar.specs.Terminals.{is_open_bracket, is_open_brace, is_not, is_minus}
use Rattle.ruby_grammar.specs.Rules.{ruby, Sort, Rule, Body, Around, Scope, Block, file, definitions, more_definitions}
use Rattle.ruby_grammar.specs.Rules.{definition, path_rest, parent, constant, heading, parameter_list, parameters}
use Rattle.ruby_grammar.specs.Rules.{opened_path}
use Rattle.ruby_grammar.specs.Rules.{more_parameters, more_readers, statements, more_statements, statement}
use Rattle.ruby_grammar.specs.Rules.{simple_statement, condition_behind, then_or_line, perhaps_line, arms_rest}
use Rattle.ruby_grammar.specs.Rules.{perhaps_expression, expression, choice_rest, operators, more_operators, unary}
use Rattle.ruby_grammar.specs.Rules.{postfix, more_postfix, primary, name_rest, perhaps_arguments, members}
use Rattle.ruby_grammar.specs.Rules.{more_members, pairs, more_pairs, pair, text_parts}
use Rattle.ruby_grammar.specs.Language.{forms}
use Rattle.ruby_grammar.specs.Choices.{starts_expression, starts_statement, starts_pair, starts_definition, starts_top}
use Rattle.ruby_grammar.specs.Choices.{starts_member}
use Rattle.ruby_grammar.specs.Expressions as e
use Rattle.ruby_grammar.specs.Statements as s
use Rattle.ruby_grammar.specs.Definitions as d
use Rattle.ruby_grammar.proofs.Tools.{Each, each_among, each_append, each_opening, terminal_is, and_true, or_true}

-- what an expression begins with, but `!` and `-`
abbrev pub starts_primary : Word → Bool
starts_primary w =
    is_int w || is_text_open w || is_sym w || is_nil w || is_true w || is_false w || is_self w || is_name w ||
    is_ivar w || is_path w || is_const w
    || is_open_bracket w || is_open_brace w || is_open_paren w

-- what a simple statement begins with: an expression, `return` or `raise`
abbrev pub starts_simple : Word → Bool
starts_simple w = starts_expression w || is_return w || is_raise w

-- which words a rule's sentences begin with; of a rule that may say nothing this tells nothing
abbrev pub first_of_rule : {t : Sort} → Rule t → Word → Bool
first_of_rule (definition here) = starts_definition here.path
first_of_rule (parent path at) = λ w. is_less w || is_line w
first_of_rule (constant ending) = λ w. is_path w || is_const w
first_of_rule (heading path) = λ w. is_self w || is_name w
first_of_rule (parameter_list levels) = λ w. is_line w || is_open_paren w
first_of_rule (statement here) = starts_statement
first_of_rule (simple_statement here) = starts_simple
first_of_rule then_or_line = λ w. is_then w || is_line w
first_of_rule (arms_rest levels sets may_elsif arms b) = λ w. is_end w || is_else w || is_elsif w
first_of_rule (pair here) = starts_pair
first_of_rule (expression here) = starts_expression
first_of_rule (operators level here) = starts_expression
first_of_rule (unary here) = starts_expression
first_of_rule (postfix here) = starts_primary
first_of_rule (primary here) = starts_primary
first_of_rule _ = λ w. true

-- whether each sentence of the rule has a word
abbrev pub is_solid : {t : Sort} → Rule t → Bool
is_solid (definition here) = true
is_solid (parent path at) = true
is_solid (constant ending) = true
is_solid (heading path) = true
is_solid (parameter_list levels) = true
is_solid (statement here) = true
is_solid (simple_statement here) = true
is_solid then_or_line = true
is_solid (arms_rest levels sets may_elsif arms b) = true
is_solid (pair here) = true
is_solid (expression here) = true
is_solid (operators level here) = true
is_solid (unary here) = true
is_solid (postfix here) = true
is_solid (primary here) = true
is_solid _ = false

-- the first words of the rules, for the theory of what follows a call
abbrev pub ruby_firsts : Firsts ruby
ruby_firsts = record { first = first_of_rule; solid = is_solid }

abbrev All : {t : Sort} → (Word → Bool) → List (Prod ruby t) → Type 0
All q ps = Each (λ p. Starts ruby_firsts q p) ps

by_opening : {t : Sort} (q : Word → Bool) (levels : ℕ) (f : ℕ → Prod ruby t) →
    ((n : ℕ) → Starts ruby_firsts q (f n)) → All q (e.opening levels f)
by_opening q levels f h = each_opening (λ p. Starts ruby_firsts q p) levels f h

both : {t : Sort} (q : Word → Bool) (ps qs : List (Prod ruby t)) → All q ps → All q qs → All q (ps ++ qs)
both q ps qs h k = each_append (λ p. Starts ruby_firsts q p) ps qs h k

or_first : (a b : Bool) → a ≡ true → (a || b) ≡ true
or_first a b h = rw h refl

or_second : (a b : Bool) → b ≡ true → (a || b) ≡ true
or_second true b h = refl
or_second false b h = h

primary_all : (here : Scope) → All starts_primary (e.primary_forms here)
primary_all here = (
  λ w t. rw (terminal_is 55 w t) refl,
  (
    λ w t. rw (terminal_is 56 w t) refl,
    (
      λ w t. rw (terminal_is 54 w t) refl,
      (
        λ w t. rw (terminal_is 12 w t) refl,
        (
          λ w t. rw (terminal_is 13 w t) refl,
          (
            λ w t. rw (terminal_is 14 w t) refl,
            (
              λ w t. rw (terminal_is 11 w t) refl,
              (
                λ w t. rw (terminal_is 0 w t) refl,
                (
                  λ w t. rw (terminal_is 52 w t) refl,
                  (
                    (
                      refl,
                      λ w h. elim (or_true (is_path w) (is_const w) h) [
                        | inl t ↦ rw (terminal_is 86 w t) refl
                        | inr t ↦ rw (terminal_is 51 w t) refl
                      ],
                    ),
                    both starts_primary (e.opening here.levels (e.array_from here)) _
                        (by_opening starts_primary here.levels (e.array_from here)
                        (λ n w t. rw (terminal_is 93 w t) refl))
                        (both starts_primary (e.opening here.levels (e.hash_from here)) _
                        (by_opening starts_primary here.levels (e.hash_from here)
                        (λ n w t. rw (terminal_is 95 w t) refl))
                        (by_opening starts_primary here.levels (e.group_from here)
                        (λ n w t. rw (terminal_is 91 w t) refl))),
                  ),
                ),
              ),
            ),
          ),
        ),
      ),
    ),
  ),
)

unary_all : (here : Scope) → All starts_expression (e.unary_forms here)
unary_all here =
    both starts_expression (e.opening here.levels (e.not_from here)) _
    (by_opening starts_expression here.levels (e.not_from here) (λ n w t. rw (terminal_is 72 w t) refl))
    (both starts_expression (e.opening here.levels (e.minus_from here)) _
    (by_opening starts_expression here.levels (e.minus_from here) (λ n w t. rw (terminal_is 80 w t) refl)) (
      (
        refl,
        λ w h. or_first (starts_primary w || is_not w) (is_minus w)
            (or_first (starts_primary w) (is_not w) h),
      ),
      tt,
    ))

operators_all : (level : Level) (here : Scope) → All starts_expression (e.operators_forms level here)
operators_all units here = ((refl, λ w h. h), tt)
operators_all products here = ((refl, λ w h. h), tt)
operators_all sums here = ((refl, λ w h. h), tt)
operators_all comparisons here = ((refl, λ w h. h), tt)
operators_all equalities here = ((refl, λ w h. h), tt)
operators_all conjunctions here = ((refl, λ w h. h), tt)
operators_all disjunctions here = ((refl, λ w h. h), tt)

-- a variable is a name
variable_is : (w : Word) → is_variable w ≡ true → is_name w ≡ true
variable_is w h = (and_true (is_name w) _ h).0

setting_starts : (w : Word) → is_variable w ≡ true → starts_simple w ≡ true
setting_starts w t = rw (terminal_is 0 w (variable_is w t)) refl

set_all : (sets : Bool) (here : Around) → All starts_simple (s.where_it_may sets (s.setting_ivar here))
set_all true here = (λ w t. rw (terminal_is 52 w t) refl, tt)
set_all false here = tt

expression_is_simple : (w : Word) → starts_expression w ≡ true → starts_simple w ≡ true
expression_is_simple w h = or_first (starts_expression w || is_return w) (is_raise w)
    (or_first (starts_expression w) (is_return w) h)

simple_all : (here : Around) → All starts_simple (s.simple_statement_forms here)
simple_all here = (
  λ w t. rw (terminal_is 10 w t) refl,
  (
    λ w t. rw (terminal_is 15 w t) refl,
    (
      λ w t. setting_starts w t,
      both starts_simple (s.where_it_may here.sets (s.setting_ivar here)) _ (set_all here.sets here)
          ((refl, λ w h. expression_is_simple w h), tt),
    ),
  ),
)

simple_is_statement : (w : Word) → starts_simple w ≡ true → starts_statement w ≡ true
simple_is_statement w h = elim (or_true (starts_expression w || is_return w) (is_raise w) h) [
  | inl t ↦ elim (or_true (starts_expression w) (is_return w) t) [
    | inl u ↦ or_first (starts_expression w || is_return w || is_raise w || is_if w) (is_unless w)
        (or_first (starts_expression w || is_return w || is_raise w) (is_if w)
        (or_first (starts_expression w || is_return w) (is_raise w) (or_first (starts_expression w) (is_return w) u)))
    | inr u ↦ rw (terminal_is 10 w u) refl
  ]
  | inr t ↦ rw (terminal_is 15 w t) refl
]

statement_all : (here : Around) → All starts_statement (s.statement_forms here)
statement_all here = (
  (refl, λ w h. simple_is_statement w h),
  both starts_statement (e.opening here.levels (s.if_from here)) _
      (by_opening starts_statement here.levels (s.if_from here) (λ n w t. rw (terminal_is 5 w t) refl))
      (by_opening starts_statement here.levels (s.unless_from here) (λ n w t. rw (terminal_is 8 w t) refl)),
)

elsif_all : (may_elsif : Bool) (levels : ℕ) (sets : Bool) (arms : List (Expr × List Stmt)) (b : Block) →
    All (λ w. is_end w || is_else w || is_elsif w) (s.elsif_forms levels sets may_elsif arms b)
elsif_all true levels sets arms b = (λ w t. rw (terminal_is 6 w t) refl, tt)
elsif_all false levels sets arms b = tt

branch_all : (closed : Bool) (levels : ℕ) (sets may_elsif : Bool) (arms : List (Expr × List Stmt)) (b : Block) →
    All (λ w. is_end w || is_else w || is_elsif w) (s.branch_forms closed levels sets may_elsif arms b)
branch_all true levels sets may_elsif arms b =
    (λ w t. rw (terminal_is 7 w t) refl, elsif_all may_elsif levels sets arms b)
branch_all false levels sets may_elsif arms b = tt

member_all : (top : Bool) (here : Body) →
    All (λ w. starts_top w || (not top && starts_member w)) (d.member_forms top here)
member_all true here = tt
member_all false here = (
  λ w t. rw (terminal_is 16 w t) refl,
  (
    λ w t. rw (terminal_is 17 w t) refl,
    by_opening (λ w. starts_top w || (not false && starts_member w))
        here.levels (d.method_from here) (λ n w t. rw (terminal_is 3 w t) refl),
  ),
)

definition_all : (here : Body) → All (starts_definition here.path) (d.definition_forms here)
definition_all here = (
  λ w t. rw (terminal_is 51 w t) refl,
  both (starts_definition here.path)
      (e.opening here.levels (d.module_from here) ++ e.opening here.levels (d.class_from here)) _
      (both (starts_definition here.path) (e.opening here.levels (d.module_from here)) _
      (by_opening (starts_definition here.path) here.levels (d.module_from here) (λ n w t. rw (terminal_is 1 w t) refl))
      (by_opening (starts_definition here.path) here.levels (d.class_from here) (λ n w t. rw (terminal_is 2 w t) refl)))
      (member_all (d.at_top here.path) here),
)

all_rule : {t : Sort} (rule : Rule t) → is_solid rule ≡ true → All (first_of_rule rule) (forms rule)
all_rule (definition here) h = definition_all here
all_rule (parent path at) h = (λ w t. rw (terminal_is 75 w t) refl, (λ w t. rw (terminal_is 50 w t) refl, tt))
all_rule (constant ending) h = (λ w t. rw (terminal_is 86 w t) refl, (λ w t. rw (terminal_is 51 w t) refl, tt))
all_rule (heading path) h = (λ w t. rw (terminal_is 11 w t) refl, (λ w t. rw (terminal_is 0 w t) refl, tt))
all_rule (parameter_list levels) h = (
  λ w t. rw (terminal_is 50 w t) refl,
  by_opening (λ w. is_line w || is_open_paren w) levels d.parameters_from
      (λ n w t. rw (terminal_is 91 w t) refl),
)
all_rule (statement here) h = statement_all here
all_rule (simple_statement here) h = simple_all here
all_rule then_or_line h = (λ w t. rw (terminal_is 9 w t) refl, (λ w t. rw (terminal_is 50 w t) refl, tt))
all_rule (arms_rest levels sets may_elsif arms b) h =
    (λ w t. rw (terminal_is 4 w t) refl, branch_all b.closed levels sets may_elsif arms b)
all_rule (pair here) h =
    (λ w t. rw (terminal_is 53 w t) refl, ((refl, λ w h. or_second (is_label w) (starts_expression w) h), tt))
all_rule (expression here) h = ((refl, λ w h. h), tt)
all_rule (operators level here) h = operators_all level here
all_rule (unary here) h = unary_all here
all_rule (postfix here) h = ((refl, λ w h. h), tt)
all_rule (primary here) h = primary_all here
all_rule (file levels anywhere) h = cc
all_rule (definitions here ds) h = cc
all_rule (more_definitions here ds) h = cc
all_rule (path_rest more ending names) h = cc
all_rule (opened_path more how names) h = cc
all_rule parameters h = cc
all_rule (more_parameters names) h = cc
all_rule (more_readers path names) h = cc
all_rule (statements here ss) h = cc
all_rule (more_statements here ss) h = cc
all_rule (condition_behind levels t) h = cc
all_rule perhaps_line h = cc
all_rule (perhaps_expression here) h = cc
all_rule (choice_rest here x) h = cc
all_rule (more_operators level here x) h = cc
all_rule (more_postfix here x) h = cc
all_rule (name_rest here name) h = cc
all_rule (perhaps_arguments here) h = cc
all_rule (members here xs) h = cc
all_rule (more_members here xs) h = cc
all_rule (pairs here ps) h = cc
all_rule (more_pairs here ps) h = cc
all_rule (text_parts here double parts) h = cc

-- each alternative of a solid rule begins with one of the rule's first words
pub starts_law : {t : Sort} (rule : Rule t) (p : Prod ruby t) → Among p (forms rule) → is_solid rule ≡ true →
    Starts ruby_firsts (first_of_rule rule) p
starts_law rule p am h = each_among (λ q. Starts ruby_firsts (first_of_rule rule) q) (all_rule rule h) am
