-- What follows each call fits the called rule.
use Rattle.std.proofs.Common.{◌≡◌, ℕ, Bool, true, false, ◌||◌, not, List, [], ◌∷◌, ◌++◌, Option, Some, None, refl}
use Rattle.ruby_types.specs.declared.tree.Expr.{Expr}
use Rattle.ruby_types.specs.declared.tree.Stmt.{Stmt}
use Rattle.ruby_types.specs.declared.tree.Expr.TheVariants as expr
use Rattle.ruby_grammar.specs.Values.{operation}
use Rattle.descent.specs.Grammar.{Prod, Among, give, token, call, only}
use Rattle.descent.specs.Lawful.{Follows}
use Rattle.descent.proofs.Following.{Opening, Fitting, before_give, before_start, before_token, before_only}
use Rattle.descent.proofs.Following.{before_perhaps}
use Rattle.ruby_grammar.specs.Words.{Word}
use Rattle.ruby_grammar.specs.Marks.{Mark}
use Rattle.ruby_grammar.specs.Terminals
use Rattle.ruby_grammar.specs.Terminals.{Level, units, products, sums, comparisons, equalities, conjunctions}
use Rattle.ruby_grammar.specs.Terminals.{disjunctions}
use Rattle.ruby_grammar.specs.Terminals.{tighter, repeats, terminal, is_operator, is_end, is_if, is_elsif, is_else}
use Rattle.ruby_grammar.specs.Terminals.{is_unless}
use Rattle.ruby_grammar.specs.Terminals.{is_then, is_line, is_ask, is_path, is_dot, is_comma, is_close_paren}
use Rattle.ruby_grammar.specs.Terminals.{is_close_bracket, is_close_brace, is_text_close, is_tight_paren}
use Rattle.ruby_grammar.specs.Terminals.{is_tight_bracket}
use Rattle.ruby_grammar.specs.Terminals.{is_open_bracket, is_colon, is_arrow, is_inside_close, is_less}
use Rattle.ruby_grammar.specs.Marks.{opens_module, opens_class}
use Rattle.ruby_grammar.specs.Rules.{ruby, Val, Name, Sort, Rule, Body, Around, Scope, Block, a_tree, some_defs, a_def}
use Rattle.ruby_grammar.specs.Rules.{some_names, a_parent, a_constant, a_block, a_statement, an_expression}
use Rattle.ruby_grammar.specs.Rules.{perhaps_an_expression, some_expressions, some_pairs, a_pair, some_parts, no_value}
use Rattle.ruby_grammar.specs.Rules.{file, definitions, more_definitions, definition, path_rest, parent, constant}
use Rattle.ruby_grammar.specs.Rules.{PathOpening, opened_path}
use Rattle.ruby_grammar.specs.Rules.{heading, parameter_list, parameters, more_parameters, more_readers, statements}
use Rattle.ruby_grammar.specs.Rules.{more_statements, statement, simple_statement, condition_behind, then_or_line}
use Rattle.ruby_grammar.specs.Rules.{perhaps_line, arms_rest, perhaps_expression, expression, choice_rest, operators}
use Rattle.ruby_grammar.specs.Rules.{more_operators, unary, postfix, more_postfix, primary, name_rest}
use Rattle.ruby_grammar.specs.Rules.{perhaps_arguments, members, more_members, pairs, more_pairs, pair, text_parts}
use Rattle.ruby_grammar.specs.Language.{forms, ruby_grammar}
use Rattle.ruby_grammar.specs.Choices.{next_is, starts_expression, starts_statement}
use Rattle.ruby_grammar.specs.Follow.{ruby_follow, fits, ends_or, none_is, ends_block, ends_statement, ends_simple}
use Rattle.ruby_grammar.specs.Follow.{goes_on_primary, goes_on_postfix, goes_on_disjunctions, goes_on}
use Rattle.ruby_grammar.specs.Follow.{goes_on_expression, ends_members}
use Rattle.ruby_grammar.specs.Expressions as e
use Rattle.ruby_grammar.specs.Statements as s
use Rattle.ruby_grammar.specs.Definitions as d
use Rattle.ruby_grammar.proofs.Tools.{Each, each_among, each_append, each_opening, terminal_is, and_true}
use Rattle.ruby_grammar.proofs.First.{ruby_firsts, first_of_rule, is_solid, starts_law}

-- ---- facts of single words

abbrev Imp : (Option Word → Bool) → (Option Word → Bool) → Type 0
Imp p q = (a : Option Word) → p a ≡ true → q a ≡ true

pos_neg : (t u : Word → Bool) → ((w : Word) → t w ≡ true → u w ≡ false) → Imp (next_is t) (none_is u)
pos_neg t u f None h = cc
pos_neg t u f (Some w) h = rw (f w h) refl

ends_neg : (t u : Word → Bool) → ((w : Word) → t w ≡ true → u w ≡ false) → Imp (ends_or t) (none_is u)
ends_neg t u f None h = refl
ends_neg t u f (Some w) h = rw (f w h) refl

pos_pos : (t u : Word → Bool) → ((w : Word) → t w ≡ true → u w ≡ true) → Imp (next_is t) (next_is u)
pos_pos t u f None h = cc
pos_pos t u f (Some w) h = f w h

ends_ends : (t u : Word → Bool) → ((w : Word) → t w ≡ true → u w ≡ true) → Imp (ends_or t) (ends_or u)
ends_ends t u f None h = refl
ends_ends t u f (Some w) h = f w h

second_false : (a b : Bool) → not (a || b) ≡ true → not b ≡ true
second_false true b h = cc
second_false false b h = h

weaker : (t u : Word → Bool) → Imp (none_is (λ w. t w || u w)) (none_is u)
weaker t u None h = refl
weaker t u (Some w) h = second_false (t w) (u w) h

-- where one of two tests passes, what follows from each holds
pub either : {P : Type 0} (a b : Bool) → (a || b) ≡ true → (a ≡ true → P) → (b ≡ true → P) → P
either true b h f k = f refl
either false b h f k = k h

-- what ends a block is `end`, `elsif` or `else`: its cases by number
pub block_cases : (w : Word) (Q : Type 0) → (terminal w ≡ 4 → Q) → (terminal w ≡ 6 → Q) → (terminal w ≡ 7 → Q) →
    ends_block w ≡ true → Q
block_cases w Q a b c h = either (is_end w || is_elsif w) (is_else w) h
    (λ t. either (is_end w) (is_elsif w) t (λ u. a (terminal_is 4 w u)) (λ u. b (terminal_is 6 w u)))
    (λ u. c (terminal_is 7 w u))

-- what ends a statement is a Line, or ends a block: its cases by number
pub statement_cases : (w : Word) (Q : Type 0) → (terminal w ≡ 50 → Q) → (terminal w ≡ 4 → Q) → (terminal w ≡ 6 → Q) →
    (terminal w ≡ 7 → Q) → ends_statement w ≡ true → Q
statement_cases w Q l a b c h = either (is_line w) (ends_block w) h (λ u. l (terminal_is 50 w u))
    (block_cases w Q a b c)

-- what ends a simple statement is `if`, `unless`, or ends a statement: its cases by number
pub simple_cases : (w : Word) (Q : Type 0) → (terminal w ≡ 5 → Q) → (terminal w ≡ 8 → Q) → (terminal w ≡ 50 → Q) →
    (terminal w ≡ 4 → Q) → (terminal w ≡ 6 → Q) → (terminal w ≡ 7 → Q) → ends_simple w ≡ true → Q
simple_cases w Q i u l a b c h = either (is_if w || is_unless w) (ends_statement w) h
    (λ t. either (is_if w) (is_unless w) t (λ v. i (terminal_is 5 w v)) (λ v. u (terminal_is 8 w v)))
    (statement_cases w Q l a b c)

block_not : (w : Word) → ends_block w ≡ true → goes_on_expression w ≡ false
block_not w h = block_cases w (goes_on_expression w ≡ false) (λ e. rw e refl) (λ e. rw e refl) (λ e. rw e refl) h

statement_not : (w : Word) → ends_statement w ≡ true → goes_on_expression w ≡ false
statement_not w h = statement_cases w (goes_on_expression w ≡ false) (λ e. rw e refl) (λ e. rw e refl)
    (λ e. rw e refl) (λ e. rw e refl) h

simple_not : (w : Word) → ends_simple w ≡ true → goes_on_expression w ≡ false
simple_not w h = simple_cases w (goes_on_expression w ≡ false) (λ e. rw e refl) (λ e. rw e refl) (λ e. rw e refl)
    (λ e. rw e refl) (λ e. rw e refl) (λ e. rw e refl) h

definition_not : (w : Word) → (is_line w || is_end w) ≡ true → goes_on_expression w ≡ false
definition_not w h = either (is_line w) (is_end w) h (λ u. rw (terminal_is 50 w u) refl)
    (λ u. rw (terminal_is 4 w u) refl)

definition_not_path : (w : Word) → (is_line w || is_end w) ≡ true → is_path w ≡ false
definition_not_path w h = either (is_line w) (is_end w) h (λ u. rw (terminal_is 50 w u) refl)
    (λ u. rw (terminal_is 4 w u) refl)

definition_not_comma : (w : Word) → (is_line w || is_end w) ≡ true → is_comma w ≡ false
definition_not_comma w h = either (is_line w) (is_end w) h (λ u. rw (terminal_is 50 w u) refl)
    (λ u. rw (terminal_is 4 w u) refl)

members_not : (w : Word) → ends_members w ≡ true → goes_on_expression w ≡ false
members_not w h = either (is_close_paren w) (is_close_bracket w) h (λ u. rw (terminal_is 92 w u) refl)
    (λ u. rw (terminal_is 94 w u) refl)

pair_not : (w : Word) → (is_comma w || is_close_brace w) ≡ true → goes_on_expression w ≡ false
pair_not w h = either (is_comma w) (is_close_brace w) h (λ u. rw (terminal_is 88 w u) refl)
    (λ u. rw (terminal_is 96 w u) refl)

-- two tests of which no word passes both: a word that passes the one fails the other, which is of one number
pub unless_terminal : (n : ℕ) (q t : Word → Bool) (w : Word) → (t w ≡ true → terminal w ≡ n) →
    (terminal w ≡ n → q w ≡ false) →
    q w ≡ true → t w ≡ false
unless_terminal n q t w f k h = by (t w) refl
  where
    by : (b : Bool) → t w ≡ b → t w ≡ false
    by true e = let z = k (f e) in cc
    by false e = e

statement_not_line : (w : Word) → starts_statement w ≡ true → is_line w ≡ false
statement_not_line w h = unless_terminal 50 starts_statement is_line w (terminal_is 50 w) (λ e. rw e refl) h

arms_not_line : (w : Word) → (is_end w || is_else w || is_elsif w) ≡ true → is_line w ≡ false
arms_not_line w h = unless_terminal 50 (λ v. is_end v || is_else v || is_elsif v) is_line w (terminal_is 50 w)
    (λ e. rw e refl) h

arms_end_block : (w : Word) → (is_end w || is_else w || is_elsif w) ≡ true → ends_block w ≡ true
arms_end_block w h = either (is_end w || is_else w) (is_elsif w) h
    (λ t. either (is_end w) (is_else w) t (λ u. rw (terminal_is 4 w u) refl) (λ u. rw (terminal_is 7 w u) refl))
    (λ u. rw (terminal_is 6 w u) refl)

-- no word that ends a simple statement begins an expression, so `return` stands alone before it
pub simple_not_start : (w : Word) → ends_simple w ≡ true → starts_expression w ≡ false
simple_not_start w h = simple_cases w (starts_expression w ≡ false) (λ e. rw e refl) (λ e. rw e refl)
    (λ e. rw e refl) (λ e. rw e refl) (λ e. rw e refl) (λ e. rw e refl) h

dot_not : (w : Word) → (is_dot w || is_tight_bracket w) ≡ true → goes_on_primary w ≡ false
dot_not w h = either (is_dot w) (is_tight_bracket w) h (λ u. rw (terminal_is 87 w u) refl)
    (λ u. rw (terminal_is 93 w (and_true (is_open_bracket w) w.tight u).0) refl)

dot_not_paren : (w : Word) → (is_dot w || is_tight_bracket w) ≡ true → is_tight_paren w ≡ false
dot_not_paren w h = either (is_dot w) (is_tight_bracket w) h (λ u. rw (terminal_is 87 w u) refl)
    (λ u. rw (terminal_is 93 w (and_true (is_open_bracket w) w.tight u).0) refl)

operator_not : (level : Level) (w : Word) → is_operator level w ≡ true → goes_on (tighter level) w ≡ false
operator_not units w h = cc
operator_not products w h = either (Terminals.is 81 w || Terminals.is 82 w) (Terminals.is 83 w) h
    (λ t. either (Terminals.is 81 w) (Terminals.is 82 w) t (λ u. rw (terminal_is 81 w u) refl)
    (λ u. rw (terminal_is 82 w u) refl))
    (λ u. rw (terminal_is 83 w u) refl)
operator_not sums w h = either (Terminals.is 79 w) (Terminals.is 80 w) h (λ u. rw (terminal_is 79 w u) refl)
    (λ u. rw (terminal_is 80 w u) refl)
operator_not comparisons w h =
    either (Terminals.is 75 w || Terminals.is 76 w || Terminals.is 77 w) (Terminals.is 78 w) h
    (λ t. either (Terminals.is 75 w || Terminals.is 76 w) (Terminals.is 77 w) t
    (λ v. either (Terminals.is 75 w) (Terminals.is 76 w) v (λ u. rw (terminal_is 75 w u) refl)
    (λ u. rw (terminal_is 76 w u) refl)) (λ u. rw (terminal_is 77 w u) refl))
    (λ u. rw (terminal_is 78 w u) refl)
operator_not equalities w h = either (Terminals.is 73 w) (Terminals.is 74 w) h (λ u. rw (terminal_is 73 w u) refl)
    (λ u. rw (terminal_is 74 w u) refl)
operator_not conjunctions w h = rw (terminal_is 71 w h) refl
operator_not disjunctions w h = rw (terminal_is 70 w h) refl

tighter_fits : (level : Level) → Imp (none_is (goes_on level)) (none_is (goes_on (tighter level)))
tighter_fits units a h = h
tighter_fits products a h = weaker (is_operator products) (goes_on units) a h
tighter_fits sums a h = weaker (is_operator sums) (goes_on products) a h
tighter_fits comparisons a h = weaker (is_operator comparisons) (goes_on sums) a h
tighter_fits equalities a h = weaker (is_operator equalities) (goes_on comparisons) a h
tighter_fits conjunctions a h = weaker (is_operator conjunctions) (goes_on equalities) a h
tighter_fits disjunctions a h = weaker (is_operator disjunctions) (goes_on conjunctions) a h

postfix_primary : Imp (none_is goes_on_postfix) (none_is goes_on_primary)
postfix_primary a h = weaker (λ w. is_dot w || is_tight_bracket w) goes_on_primary a h

first_none : (t u : Word → Bool) → Imp (none_is (λ w. t w || u w)) (none_is t)
first_none t u None h = refl
first_none t u (Some w) h = by (t w) h
  where
    by : (b : Bool) → not (b || u w) ≡ true → not b ≡ true
    by true k = k
    by false k = refl

primary_paren : Imp (none_is goes_on_primary) (none_is is_tight_paren)
primary_paren a h = first_none is_tight_paren is_path a h

primary_path : Imp (none_is goes_on_primary) (none_is is_path)
primary_path a h = weaker is_tight_paren is_path a h

opened_fits : (top : Bool) (how : PathOpening) (names : List Name) (w : Word) → is_path w ≡ false →
    fits (opened_path top how names) (Some w) ≡ true
opened_fits true how names w h = rw h refl
opened_fits false how names w h = refl

-- one of two tests passes where the second does
pub or_second : (a b : Bool) → b ≡ true → (a || b) ≡ true
or_second true b h = refl
or_second false b h = h

-- one of two tests passes where the first does
pub or_first : (a b : Bool) → a ≡ true → (a || b) ≡ true
or_first a b h = rw h refl

-- ---- what follows

-- what follows a call, where the production then gives: what may follow the production must fit
pub gv : (t : Sort) (fit fit' : Option Word → Bool) (y : Val t) → Imp fit fit' → Fitting ruby_grammar fit fit' (give y)
gv t fit fit' y f = before_give ruby_grammar ruby_firsts (λ t. starts_law) fit fit' y f

-- what follows a call, where the production then reads a word: each word that passes its test must fit
pub tk : (t : Sort) (fit fit' : Option Word → Bool) (test : Word → Bool) (next : Word → Prod ruby t) →
    ((w : Word) → test w ≡ true → fit' (Some w) ≡ true) → Fitting ruby_grammar fit fit' (token test next)
tk t fit fit' test next f = before_token ruby_grammar ruby_firsts (λ t. starts_law) fit fit' test next f

-- what follows a call, where it then calls a solid rule: each first word of that rule must fit
pub rl : (t : Sort) {v : Sort} (fit fit' : Option Word → Bool) (rule : Rule v) (next : Val v → Prod ruby t) →
    is_solid rule ≡ true → ((w : Word) → first_of_rule rule w ≡ true → fit' (Some w) ≡ true) →
    Fitting ruby_grammar fit fit' (call rule next)
rl t fit fit' rule next s f = before_start ruby_grammar ruby_firsts (λ t. starts_law) fit fit' (first_of_rule rule)
    (call rule next) (s, λ w h. h) f

-- what a rule begins with, or says nothing
abbrev pub Opens : {t : Sort} → (Word → Bool) → Rule t → Type 0
Opens q rule = Each (λ p. Opening ruby_firsts q p) (forms rule)

on : {t : Sort} (fit fit' : Option Word → Bool) (q : Word → Bool) (rule : Rule t) → Opens q rule →
    ((w : Word) → q w ≡ true → fit' (Some w) ≡ true) → Imp fit fit' → Fitting ruby_grammar fit fit' (only rule)
on fit fit' q rule o f k = before_only ruby_grammar ruby_firsts (λ t. starts_law) fit fit' q rule
    (λ p am. each_among (λ r. Opening ruby_firsts q r) o am) f k

-- what follows a call, where it then calls a rule that may say nothing: its first words and what follows must fit
pub pr : (t : Sort) {v : Sort} (fit fit' : Option Word → Bool) (q : Word → Bool) (rule : Rule v)
    (next : Val v → Prod ruby t) → Opens q rule → ((w : Word) → q w ≡ true → fit' (Some w) ≡ true) →
    ((y : Val v) → Fitting ruby_grammar fit fit' (next y)) → Fitting ruby_grammar fit fit' (call rule next)
pr t fit fit' q rule next o f k = before_perhaps ruby_grammar ruby_firsts (λ t. starts_law) fit fit' q rule next
    (λ p am. each_among (λ r. Opening ruby_firsts q r) o am) f k

operators_open : (level : Level) (here : Scope) (x : Expr) → Opens (is_operator level) (more_operators level here x)
operators_open units here x = (tt, tt)
operators_open products here x = (λ w t. t, (tt, tt))
operators_open sums here x = (λ w t. t, (tt, tt))
operators_open comparisons here x = (λ w t. t, (tt, tt))
operators_open equalities here x = (λ w t. t, (tt, tt))
operators_open conjunctions here x = (λ w t. t, (tt, tt))
operators_open disjunctions here x = (λ w t. t, (tt, tt))

postfix_open : (here : Scope) (x : Expr) → Opens (λ w. is_dot w || is_tight_bracket w) (more_postfix here x)
postfix_open here x = (
  λ w t. rw t refl,
  each_append (λ p. Opening ruby_firsts (λ w. is_dot w || is_tight_bracket w) p)
      (e.opening here.levels (e.index_from here x)) _
      (each_opening (λ p. Opening ruby_firsts (λ w. is_dot w || is_tight_bracket w) p) here.levels
      (e.index_from here x) (λ n w t. or_second (is_dot w) (is_tight_bracket w) t)) (tt, tt),
)

statements_open : (here : Around) (ss : List Stmt) → Opens starts_statement (statements here ss)
statements_open here ss = ((refl, λ w h. h), (tt, tt))

set_follows : (sets : Bool) (here : Around) → Each (λ p. Follows ruby_grammar ruby_follow (next_is ends_simple) p)
    (s.where_it_may sets (s.setting_ivar here))
set_follows true here = (
  λ w t w2 t2. λ y. (
    tt,
    tt,
    gv a_statement (next_is ends_simple) (none_is goes_on_expression) _
        (pos_neg ends_simple goes_on_expression simple_not),
  ),
  tt,
)
set_follows false here = tt

no_line_next : (v : Sort) (fit : Option Word → Bool) (here : Around) (ss : List Stmt) (next : Block → Prod ruby v) →
    ((b : Block) → Fitting ruby_grammar fit (none_is is_line) (next b)) →
    Fitting ruby_grammar fit (none_is is_line) (call (statements here ss) next)
no_line_next v fit here ss next k = pr v fit (none_is is_line) starts_statement (statements here ss) next
    (statements_open here ss) (λ w h. rw (statement_not_line w h) refl) k

-- a condition, its statements and the arms behind it
arm_follows : (fit : Option Word → Bool) (levels : ℕ) (sets may_elsif : Bool) (condition : Expr → Expr)
    (names : List Name) (arms : List (Expr × List Stmt)) →
    Follows ruby_grammar ruby_follow fit (s.arm_from levels sets may_elsif condition names arms)
arm_follows fit levels sets may_elsif condition names arms = λ x. (
  λ y. (
    λ b. (
      λ r. (tt, tt, gv a_statement fit (λ a. true) _ (λ a h. refl)),
      (refl, λ r. tt),
      rl a_statement fit (next_is ends_block)
          (arms_rest levels sets may_elsif (arms ++ (condition x, b.stmts) ∷ []) b) _ refl arms_end_block,
    ),
    (refl, λ b. (refl, λ r. tt)),
    no_line_next a_statement fit (s.around levels sets names) [] _
        (λ b. rl a_statement fit (none_is is_line)
        (arms_rest levels sets may_elsif (arms ++ (condition x, b.stmts) ∷ []) b) _ refl
        (λ w h. rw (arms_not_line w h) refl)),
  ),
  (refl, λ y. (refl, λ b. (refl, λ r. tt))),
  rl a_statement fit (none_is goes_on_expression) then_or_line _ refl
      (λ w h. either (is_then w) (is_line w) h (λ u. rw (terminal_is 9 w u) refl) (λ u. rw (terminal_is 50 w u) refl)),
)

statement_follows : (here : Around) → Each (λ p. Follows ruby_grammar ruby_follow (next_is ends_statement) p)
    (s.statement_forms here)
statement_follows here = (
  λ y. (
    λ z. (tt, tt, gv a_statement (next_is ends_statement) (next_is ends_statement) _ (λ a h. h)),
    (refl, λ z. tt),
    on (next_is ends_statement) (next_is ends_simple) (λ w. is_if w || is_unless w) (condition_behind here.levels y)
        (λ w t. or_first (is_if w) (is_unless w) t, (λ w t. or_second (is_if w) (is_unless w) t, (tt, tt)))
        (λ w h. or_first (is_if w || is_unless w) (ends_statement w) h)
        (pos_pos ends_statement ends_simple (λ w h. or_second (is_if w || is_unless w) (ends_statement w) h)),
  ),
  each_append (λ p. Follows ruby_grammar ruby_follow (next_is ends_statement) p)
      (e.opening here.levels (s.if_from here)) _
      (each_opening (λ p. Follows ruby_grammar ruby_follow (next_is ends_statement) p) here.levels (s.if_from here)
      (λ n w t. arm_follows (next_is ends_statement) n here.sets true (λ x. x) here.names []))
      (each_opening (λ p. Follows ruby_grammar ruby_follow (next_is ends_statement) p) here.levels
      (s.unless_from here) (λ n w t. arm_follows (next_is ends_statement) n here.sets false
      (λ x. expr.Not x) here.names [])),
)

elsif_follows : (may_elsif : Bool) (levels : ℕ) (sets : Bool) (arms : List (Expr × List Stmt)) (b : Block) →
    Each (λ p. Follows ruby_grammar ruby_follow (λ a. true) p) (s.elsif_forms levels sets may_elsif arms b)
elsif_follows true levels sets arms b = (λ w t. arm_follows (λ a. true) levels sets true (λ x. x) b.names arms, tt)
elsif_follows false levels sets arms b = tt

branch_follows : (closed : Bool) (levels : ℕ) (sets may_elsif : Bool) (arms : List (Expr × List Stmt)) (b : Block) →
    Each (λ p. Follows ruby_grammar ruby_follow (λ a. true) p) (s.branch_forms closed levels sets may_elsif arms b)
branch_follows true levels sets may_elsif arms b = (
  λ w t y. (
    λ c. (
      λ w2 t2. tt,
      tt,
      tk a_statement (λ a. true) (next_is ends_block) is_end _
          (λ v u. rw (terminal_is 4 v u) refl),
    ),
    (refl, λ c. tt),
    no_line_next a_statement (λ a. true) (s.around levels sets b.names) [] _
        (λ c. tk a_statement (λ a. true) (none_is is_line) is_end _ (λ v u. rw (terminal_is 4 v u) refl)),
  ),
  elsif_follows may_elsif levels sets arms b,
)
branch_follows false levels sets may_elsif arms b = tt

member_follows : (top : Bool) (here : Body) →
    Each (λ p. Follows ruby_grammar ruby_follow (ends_or (λ w. is_line w || is_end w)) p) (d.member_forms top here)
member_follows true here = tt
member_follows false here = (
  λ w t. λ y. (
    tt,
    tt,
    gv a_def (ends_or (λ w. is_line w || is_end w)) (none_is is_path) _
        (ends_neg (λ w. is_line w || is_end w) is_path definition_not_path),
  ),
  (
    λ w t w2 t2. λ y. (
      tt,
      tt,
      gv a_def (ends_or (λ w. is_line w || is_end w)) (none_is is_comma) _
          (ends_neg (λ w. is_line w || is_end w) is_comma definition_not_comma),
    ),
    each_opening (λ p. Follows ruby_grammar ruby_follow (ends_or (λ w. is_line w || is_end w)) p) here.levels
        (d.method_from here) (λ n. λ w t h. (
          λ names. (
            λ b. (
              λ w2 t2. tt,
              tt,
              tk a_def (ends_or (λ w. is_line w || is_end w)) (next_is ends_block) is_end _
                  (λ v u. rw (terminal_is 4 v u) refl),
            ),
            (refl, λ b. tt),
            λ ts x rest a k. refl,
          ),
          (refl, λ names. (refl, λ b. tt)),
          λ ts x rest a k. refl,
        )),
  ),
)

path_follows : (ending : Option Mark) (names : List Name) →
    Each (λ p. Follows ruby_grammar ruby_follow (none_is is_path) p) (e.path_rest_forms true ending names)
path_follows None names =
    (λ w t w2 t2. λ z. (tt, tt, gv some_names (none_is is_path) (none_is is_path) _ (λ a h. h)), (tt, tt))
path_follows (Some m) names =
    (λ w t w2 t2. λ z. (tt, tt, gv some_names (none_is is_path) (none_is is_path) _ (λ a h. h)), (tt, tt))

follows_forms : {t : Sort} (rule : Rule t) → Each (λ p. Follows ruby_grammar ruby_follow (fits rule) p) (forms rule)
follows_forms (file levels anywhere) = (
  λ w t. λ y. (
    tt,
    tt,
    gv a_tree (fits (file levels anywhere)) (fits (definitions (d.body levels anywhere []) []))
        _ (ends_ends (λ w. false) is_end (λ w h. cc)),
  ),
  (
    λ y. (
      tt,
      tt,
      gv a_tree (fits (file levels anywhere)) (fits (definitions (d.body levels anywhere []) [])) _
          (ends_ends (λ w. false) is_end (λ w h. cc)),
    ),
    tt,
  ),
)
follows_forms (definitions here ds) = (
  λ y. (
    λ z. (tt, tt, gv some_defs (fits (definitions here ds)) (fits (definitions here ds)) _ (λ a h. h)),
    (refl, λ z. tt),
    on (fits (definitions here ds)) (fits (definition here)) is_line
        (more_definitions here (ds ++ y ∷ [])) (λ w t. t, (tt, tt)) (λ w t. rw (terminal_is 50 w t) refl)
        (ends_ends is_end (λ w. is_line w || is_end w) (λ w h. or_second (is_line w) (is_end w) h)),
  ),
  (tt, tt),
)
follows_forms (more_definitions here ds) = (
  λ w t. λ z. (
    tt,
    tt,
    gv some_defs (fits (more_definitions here ds)) (fits (more_definitions here ds)) _
        (λ a h. h),
  ),
  (tt, tt),
)
follows_forms (path_rest true ending names) = path_follows ending names
follows_forms (path_rest false None names) = (tt, tt)
follows_forms (path_rest false (Some m) names) = (tt, tt)
follows_forms (opened_path true how names) =
    (λ w t w2 t2. λ z. (tt, tt, gv some_names (none_is is_path) (none_is is_path) _ (λ a h. h)), (tt, tt))
follows_forms (opened_path false how names) = (tt, tt)
follows_forms (parent path at) = (
  λ w t c. (
    λ w2 t2. tt,
    tt,
    tk a_parent (fits (parent path at)) (none_is is_path) is_line _
        (λ v u. rw (terminal_is 50 v u) refl),
  ),
  (λ w t. tt, tt),
)
follows_forms (constant ending) = (
  λ w t w2 t2. λ y. (tt, tt, gv a_constant (fits (constant ending)) (none_is is_path) _ (λ a h. h)),
  (λ w t. λ y. (tt, tt, gv a_constant (fits (constant ending)) (none_is is_path) _ (λ a h. h)), tt),
)
follows_forms (heading path) = (λ w t w2 t2 w3 t3. tt, (λ w t. tt, tt))
follows_forms (parameter_list levels) = (
  λ w t. tt,
  each_opening (λ p. Follows ruby_grammar ruby_follow (fits (parameter_list levels)) p) levels
      d.parameters_from (λ n w t y. (
        λ w2 t2 w3 t3. tt,
        tt,
        tk some_names (fits (parameter_list levels)) (next_is is_close_paren) is_close_paren _
            (λ v u. u),
      )),
)
follows_forms parameters = (
  λ w t. λ z. (tt, tt, gv some_names (fits parameters) (fits parameters) _ (λ a h. h)),
  (tt, tt),
)
follows_forms (more_parameters names) = (
  λ w t w2 t2. λ z. (
    tt,
    tt,
    gv some_names (fits (more_parameters names)) (fits (more_parameters names)) _
        (λ a h. h),
  ),
  (tt, tt),
)
follows_forms (more_readers path names) = (
  λ w t w2 t2. λ z. (
    tt,
    tt,
    gv some_names (fits (more_readers path names)) (fits (more_readers path names)) _
        (λ a h. h),
  ),
  (tt, tt),
)
follows_forms (statements here ss) = (
  λ y. (
    λ z. (tt, tt, gv a_block (fits (statements here ss)) (fits (statements here ss)) _ (λ a h. h)),
    (refl, λ z. tt),
    on (fits (statements here ss)) (fits (statement here)) is_line
        (more_statements (s.behind here y.names) (ss ++ y.stmt ∷ [])) (λ w t. t, (tt, tt))
        (λ w t. rw (terminal_is 50 w t) refl)
        (pos_pos ends_block ends_statement (λ w h. or_second (is_line w) (ends_block w) h)),
  ),
  (tt, tt),
)
follows_forms (more_statements here ss) = (
  λ w t. λ z. (tt, tt, gv a_block (fits (more_statements here ss)) (fits (more_statements here ss)) _ (λ a h. h)),
  (tt, tt),
)
follows_forms (statement here) = statement_follows here
follows_forms (simple_statement here) = (
  λ w t. λ y. (tt, tt, gv a_statement (next_is ends_simple) (next_is ends_simple) _ (λ a h. h)),
  (
    λ w t. λ y. (
      tt,
      tt,
      gv a_statement (next_is ends_simple) (none_is goes_on_expression) _
          (pos_neg ends_simple goes_on_expression simple_not),
    ),
    (
      λ w t w2 t2. λ y. (
        tt,
        tt,
        gv a_statement (next_is ends_simple) (none_is goes_on_expression) _
            (pos_neg ends_simple goes_on_expression simple_not),
      ),
      each_append (λ p. Follows ruby_grammar ruby_follow (next_is ends_simple) p)
          (s.where_it_may here.sets (s.setting_ivar here)) _ (set_follows here.sets here) (
            λ y. (
              tt,
              tt,
              gv a_statement (next_is ends_simple) (none_is goes_on_expression) _
                  (pos_neg ends_simple goes_on_expression simple_not),
            ),
            tt,
          ),
    ),
  ),
)
follows_forms (condition_behind levels t) = (
  λ w u. λ y. (
    tt,
    tt,
    gv a_statement (next_is ends_statement) (none_is goes_on_expression) _
        (pos_neg ends_statement goes_on_expression statement_not),
  ),
  (
    λ w u. λ y. (
      tt,
      tt,
      gv a_statement (next_is ends_statement) (none_is goes_on_expression) _
          (pos_neg ends_statement goes_on_expression statement_not),
    ),
    (tt, tt),
  ),
)
follows_forms then_or_line = (
  λ w t. λ z. (tt, tt, gv no_value (none_is is_line) (none_is is_line) _ (λ a h. h)),
  (λ w t. tt, tt),
)
follows_forms perhaps_line = (λ w t. tt, (tt, tt))
follows_forms (arms_rest levels sets may_elsif arms b) =
    (λ w t. tt, branch_follows b.closed levels sets may_elsif arms b)
follows_forms (perhaps_expression here) = (
  λ y. (
    tt,
    tt,
    gv perhaps_an_expression (next_is ends_simple) (none_is goes_on_expression) _
        (pos_neg ends_simple goes_on_expression simple_not),
  ),
  (tt, tt),
)
follows_forms (expression here) = (
  λ y. (
    λ z. (tt, tt, gv an_expression (none_is goes_on_expression) (none_is goes_on_expression) _ (λ a h. h)),
    (refl, λ z. tt),
    on (none_is goes_on_expression) (none_is goes_on_disjunctions) is_ask (choice_rest here y)
        (λ w t. t, (tt, tt)) (λ w t. rw (terminal_is 84 w t) refl) (weaker is_ask goes_on_disjunctions),
  ),
  tt,
)
follows_forms (choice_rest here x) = (
  λ w t y. (
    λ w2 t2. λ z.
        (tt, tt, gv an_expression (none_is goes_on_expression) (none_is goes_on_expression) _ (λ a h. h)),
    tt,
    tk an_expression (none_is goes_on_expression) (none_is goes_on_expression) is_colon _
        (λ v u. rw (terminal_is 85 v u) refl),
  ),
  (tt, tt),
)
follows_forms (operators units here) =
    (λ y. (tt, tt, gv an_expression (none_is goes_on_postfix) (none_is goes_on_postfix) _ (λ a h. h)), tt)
follows_forms (operators products here) = (
  λ y. (
    λ z. (tt, tt, gv an_expression (none_is (goes_on products)) (none_is (goes_on products)) _ (λ a h. h)),
    (refl, λ z. tt),
    on (none_is (goes_on products)) (none_is (goes_on units)) (is_operator products)
        (more_operators products here y) (operators_open products here y) (λ w h. rw (operator_not products w h) refl)
        (tighter_fits products),
  ),
  tt,
)
follows_forms (more_operators products here x) = (
  λ w t y. (
    λ z. (
      tt,
      tt,
      gv an_expression (none_is (goes_on products)) (none_is (goes_on products)) _
          (λ a h. h),
    ),
    (refl, λ z. tt),
    on (none_is (goes_on products)) (none_is (goes_on units)) (is_operator products)
        (more_operators products here (operation w x y)) (operators_open products here (operation w x y))
        (λ w h. rw (operator_not products w h) refl) (tighter_fits products),
  ),
  (tt, tt),
)
follows_forms (operators sums here) = (
  λ y. (
    λ z. (tt, tt, gv an_expression (none_is (goes_on sums)) (none_is (goes_on sums)) _ (λ a h. h)),
    (refl, λ z. tt),
    on (none_is (goes_on sums)) (none_is (goes_on products)) (is_operator sums)
        (more_operators sums here y) (operators_open sums here y) (λ w h. rw (operator_not sums w h) refl)
        (tighter_fits sums),
  ),
  tt,
)
follows_forms (more_operators sums here x) = (
  λ w t y. (
    λ z. (tt, tt, gv an_expression (none_is (goes_on sums)) (none_is (goes_on sums)) _ (λ a h. h)),
    (refl, λ z. tt),
    on (none_is (goes_on sums)) (none_is (goes_on products)) (is_operator sums)
        (more_operators sums here (operation w x y)) (operators_open sums here (operation w x y))
        (λ w h. rw (operator_not sums w h) refl) (tighter_fits sums),
  ),
  (tt, tt),
)
follows_forms (operators comparisons here) = (
  λ y. (
    λ z. (
      tt,
      tt,
      gv an_expression (none_is (goes_on comparisons)) (none_is (goes_on comparisons)) _
          (λ a h. h),
    ),
    (refl, λ z. tt),
    on (none_is (goes_on comparisons)) (none_is (goes_on sums))
        (is_operator comparisons) (more_operators comparisons here y) (operators_open comparisons here y)
        (λ w h. rw (operator_not comparisons w h) refl) (tighter_fits comparisons),
  ),
  tt,
)
follows_forms (more_operators comparisons here x) = (
  λ w t y. (
    λ z. (
      tt,
      tt,
      gv an_expression (none_is (goes_on comparisons)) (none_is (goes_on comparisons)) _
          (λ a h. h),
    ),
    (refl, λ z. tt),
    on (none_is (goes_on comparisons)) (none_is (goes_on sums))
        (is_operator comparisons) (more_operators comparisons here (operation w x y))
        (operators_open comparisons here (operation w x y)) (λ w h. rw (operator_not comparisons w h) refl)
        (tighter_fits comparisons),
  ),
  (tt, tt),
)
follows_forms (operators equalities here) = (
  λ y. (
    λ z. (
      tt,
      tt,
      gv an_expression (none_is (goes_on equalities)) (none_is (goes_on equalities)) _
          (λ a h. h),
    ),
    (refl, λ z. tt),
    on (none_is (goes_on equalities)) (none_is (goes_on comparisons))
        (is_operator equalities) (more_operators equalities here y) (operators_open equalities here y)
        (λ w h. rw (operator_not equalities w h) refl) (tighter_fits equalities),
  ),
  tt,
)
follows_forms (more_operators equalities here x) = (
  λ w t y. (
    tt,
    tt,
    gv an_expression (none_is (goes_on equalities)) (none_is (goes_on comparisons)) _
        (tighter_fits equalities),
  ),
  (tt, tt),
)
follows_forms (operators conjunctions here) = (
  λ y. (
    λ z. (
      tt,
      tt,
      gv an_expression (none_is (goes_on conjunctions)) (none_is (goes_on conjunctions)) _
          (λ a h. h),
    ),
    (refl, λ z. tt),
    on (none_is (goes_on conjunctions)) (none_is (goes_on equalities))
        (is_operator conjunctions) (more_operators conjunctions here y) (operators_open conjunctions here y)
        (λ w h. rw (operator_not conjunctions w h) refl) (tighter_fits conjunctions),
  ),
  tt,
)
follows_forms (more_operators conjunctions here x) = (
  λ w t y. (
    λ z. (
      tt,
      tt,
      gv an_expression (none_is (goes_on conjunctions)) (none_is (goes_on conjunctions)) _
          (λ a h. h),
    ),
    (refl, λ z. tt),
    on (none_is (goes_on conjunctions)) (none_is (goes_on equalities))
        (is_operator conjunctions) (more_operators conjunctions here (operation w x y))
        (operators_open conjunctions here (operation w x y)) (λ w h. rw (operator_not conjunctions w h) refl)
        (tighter_fits conjunctions),
  ),
  (tt, tt),
)
follows_forms (operators disjunctions here) = (
  λ y. (
    λ z. (
      tt,
      tt,
      gv an_expression (none_is (goes_on disjunctions)) (none_is (goes_on disjunctions)) _
          (λ a h. h),
    ),
    (refl, λ z. tt),
    on (none_is (goes_on disjunctions)) (none_is (goes_on conjunctions))
        (is_operator disjunctions) (more_operators disjunctions here y) (operators_open disjunctions here y)
        (λ w h. rw (operator_not disjunctions w h) refl) (tighter_fits disjunctions),
  ),
  tt,
)
follows_forms (more_operators disjunctions here x) = (
  λ w t y. (
    λ z. (
      tt,
      tt,
      gv an_expression (none_is (goes_on disjunctions)) (none_is (goes_on disjunctions)) _
          (λ a h. h),
    ),
    (refl, λ z. tt),
    on (none_is (goes_on disjunctions)) (none_is (goes_on conjunctions))
        (is_operator disjunctions) (more_operators disjunctions here (operation w x y))
        (operators_open disjunctions here (operation w x y)) (λ w h. rw (operator_not disjunctions w h) refl)
        (tighter_fits disjunctions),
  ),
  (tt, tt),
)
follows_forms (more_operators units here x) = (tt, tt)
follows_forms (unary here) = each_append (λ p. Follows ruby_grammar ruby_follow (none_is goes_on_postfix) p)
    (e.opening here.levels (e.not_from here)) _
    (each_opening (λ p. Follows ruby_grammar ruby_follow (none_is goes_on_postfix) p) here.levels (e.not_from here)
    (λ n. λ w t. λ y. (tt, tt, gv an_expression (none_is goes_on_postfix) (none_is goes_on_postfix) _ (λ a h. h))))
    (each_append (λ p. Follows ruby_grammar ruby_follow (none_is goes_on_postfix) p)
    (e.opening here.levels (e.minus_from here)) _
    (each_opening (λ p. Follows ruby_grammar ruby_follow (none_is goes_on_postfix) p) here.levels (e.minus_from here)
    (λ n. λ w t. λ y. (tt, tt, gv an_expression (none_is goes_on_postfix) (none_is goes_on_postfix) _ (λ a h. h))))
    ((λ z. (tt, tt, gv an_expression (none_is goes_on_postfix) (none_is goes_on_postfix) _ (λ a h. h)), tt)))
follows_forms (postfix here) = (
  λ y. (
    λ z. (tt, tt, gv an_expression (none_is goes_on_postfix) (none_is goes_on_postfix) _ (λ a h. h)),
    (refl, λ z. tt),
    on (none_is goes_on_postfix) (none_is goes_on_primary) (λ w. is_dot w || is_tight_bracket w)
        (more_postfix here y) (postfix_open here y) (λ w h. rw (dot_not w h) refl) (postfix_primary),
  ),
  tt,
)
follows_forms (more_postfix here x) = (
  λ w t w2 t2 y. (
    λ z. (
      tt,
      tt,
      gv an_expression (none_is goes_on_postfix) (none_is goes_on_postfix) _
          (λ a h. h),
    ),
    (refl, λ z. tt),
    on (none_is goes_on_postfix) (none_is is_tight_paren)
        (λ w. is_dot w || is_tight_bracket w) (more_postfix here (expr.Call (Some x) w2.text y))
        (postfix_open here (expr.Call (Some x) w2.text y)) (λ w h. rw (dot_not_paren w h) refl)
        (λ a h. primary_paren a (postfix_primary a h)),
  ),
  each_append (λ p. Follows ruby_grammar ruby_follow (none_is goes_on_postfix) p)
      (e.opening here.levels (e.index_from here x)) _
      (each_opening (λ p. Follows ruby_grammar ruby_follow (none_is goes_on_postfix) p) here.levels
      (e.index_from here x) (λ n. λ w t y. (
        λ w2 t2. λ z. (tt, tt, gv an_expression (none_is goes_on_postfix) (none_is goes_on_postfix) _ (λ a h. h)),
        tt,
        tk an_expression (none_is goes_on_postfix) (none_is goes_on_expression) is_close_bracket _
            (λ v u. rw (terminal_is 94 v u) refl),
      ))) ((tt, tt)),
)
follows_forms (primary here) = (
  λ w t. tt,
  (
    λ w t y. (
      λ w2 t2. tt,
      tt,
      tk an_expression (none_is goes_on_primary)
          (next_is is_text_close) is_text_close _ (λ v u. u),
    ),
    (
      λ w t. tt,
      (
        λ w t. tt,
        (
          λ w t. tt,
          (
            λ w t. tt,
            (
              λ w t. tt,
              (
                λ w t. λ z.
                    (tt, tt, gv an_expression (none_is goes_on_primary) (none_is goes_on_primary) _ (λ a h. h)),
                (
                  λ w t. tt,
                  (
                    λ y. (tt, tt, gv an_expression (none_is goes_on_primary) (none_is is_path) _ (primary_path)),
                    each_append (λ p. Follows ruby_grammar ruby_follow (none_is goes_on_primary) p)
                        (e.opening here.levels (e.array_from here)) _
                        (each_opening (λ p. Follows ruby_grammar ruby_follow (none_is goes_on_primary) p) here.levels
                        (e.array_from here)
                        (λ n. λ w t y. (
                          λ w2 t2. tt,
                          tt,
                          tk an_expression (none_is goes_on_primary)
                              (next_is ends_members) is_close_bracket _ (λ v u. rw (terminal_is 94 v u) refl),
                        )))
                        (each_append (λ p. Follows ruby_grammar ruby_follow (none_is goes_on_primary) p)
                        (e.opening here.levels (e.hash_from here)) _
                        (each_opening (λ p. Follows ruby_grammar ruby_follow (none_is goes_on_primary) p) here.levels
                        (e.hash_from here)
                        (λ n. λ w t y. (
                          λ w2 t2. tt,
                          tt,
                          tk an_expression (none_is goes_on_primary)
                              (next_is is_close_brace) is_close_brace _ (λ v u. rw (terminal_is 96 v u) refl),
                        )))
                        (each_opening (λ p. Follows ruby_grammar ruby_follow (none_is goes_on_primary) p) here.levels
                        (e.group_from here)
                        (λ n. λ w t y. (
                          λ w2 t2. tt,
                          tt,
                          tk an_expression (none_is goes_on_primary)
                              (none_is goes_on_expression) is_close_paren _ (λ v u. rw (terminal_is 92 v u) refl),
                        )))),
                  ),
                ),
              ),
            ),
          ),
        ),
      ),
    ),
  ),
)
follows_forms (name_rest here name) = each_append (λ p. Follows ruby_grammar ruby_follow (none_is goes_on_primary) p)
    (e.opening here.levels (e.call_from here name)) _
    (each_opening (λ p. Follows ruby_grammar ruby_follow (none_is goes_on_primary) p) here.levels
    (e.call_from here name) (λ n. λ w t y. (
      λ w2 t2. tt,
      tt,
      tk an_expression (none_is goes_on_primary) (next_is ends_members) is_close_paren _
          (λ v u. rw (terminal_is 92 v u) refl),
    ))) ((tt, tt))
follows_forms (perhaps_arguments here) =
    each_append (λ p. Follows ruby_grammar ruby_follow (none_is is_tight_paren) p)
    (e.opening here.levels (e.arguments_from here)) _
    (each_opening (λ p. Follows ruby_grammar ruby_follow (none_is is_tight_paren) p) here.levels
    (e.arguments_from here) (λ n. λ w t y. (
      λ w2 t2. tt,
      tt,
      tk some_expressions (none_is is_tight_paren) (next_is ends_members) is_close_paren _
          (λ v u. rw (terminal_is 92 v u) refl),
    ))) ((tt, tt))
follows_forms (members here xs) = (
  λ y. (
    λ z. (tt, tt, gv some_expressions (next_is ends_members) (next_is ends_members) _ (λ a h. h)),
    (refl, λ z. tt),
    on (next_is ends_members) (none_is goes_on_expression) is_comma
        (more_members here (xs ++ y ∷ [])) (λ w t. t, (tt, tt)) (λ w t. rw (terminal_is 88 w t) refl)
        (pos_neg ends_members goes_on_expression members_not),
  ),
  (tt, tt),
)
follows_forms (more_members here xs) =
    (λ w t. λ z. (tt, tt, gv some_expressions (next_is ends_members) (next_is ends_members) _ (λ a h. h)), (tt, tt))
follows_forms (pairs here ps) = (
  λ y. (
    λ z. (tt, tt, gv some_pairs (next_is is_close_brace) (next_is is_close_brace) _ (λ a h. h)),
    (refl, λ z. tt),
    on (next_is is_close_brace) (next_is (λ w. is_comma w || is_close_brace w)) is_comma
        (more_pairs here (ps ++ y ∷ [])) (λ w t. t, (tt, tt)) (λ w t. rw (terminal_is 88 w t) refl)
        (pos_pos is_close_brace (λ w. is_comma w || is_close_brace w)
        (λ w h. or_second (is_comma w) (is_close_brace w) h)),
  ),
  (tt, tt),
)
follows_forms (more_pairs here ps) =
    (λ w t. λ z. (tt, tt, gv some_pairs (next_is is_close_brace) (next_is is_close_brace) _ (λ a h. h)), (tt, tt))
follows_forms (pair here) = (
  λ w t. λ y. (
    tt,
    tt,
    gv a_pair (next_is (λ w. is_comma w || is_close_brace w)) (none_is goes_on_expression) _
        (pos_neg (λ w. is_comma w || is_close_brace w) goes_on_expression pair_not),
  ),
  (
    λ x. (
      λ w2 t2. λ y. (
        tt,
        tt,
        gv a_pair (next_is (λ w. is_comma w || is_close_brace w))
            (none_is goes_on_expression) _ (pos_neg (λ w. is_comma w || is_close_brace w) goes_on_expression pair_not),
      ),
      tt,
      tk a_pair (next_is (λ w. is_comma w || is_close_brace w)) (none_is goes_on_expression) is_arrow _
          (λ v u. rw (terminal_is 90 v u) refl),
    ),
    tt,
  ),
)
follows_forms (text_parts here double parts) = (
  λ w t. λ z. (tt, tt, gv some_parts (next_is is_text_close) (next_is is_text_close) _ (λ a h. h)),
  each_append (λ p. Follows ruby_grammar ruby_follow (next_is is_text_close) p)
      (e.opening here.levels (e.inside_from here double parts)) _
      (each_opening (λ p. Follows ruby_grammar ruby_follow (next_is is_text_close) p) here.levels
      (e.inside_from here double parts)
      (λ n. λ w t y. (
        λ w2 t2. λ z.
            (tt, tt, gv some_parts (next_is is_text_close) (next_is is_text_close) _ (λ a h. h)),
        tt,
        tk some_parts (next_is is_text_close) (none_is goes_on_expression) is_inside_close _
            (λ v u. rw (terminal_is 59 v u) refl),
      ))) ((tt, tt)),
)
follows_forms (definition here) =
    each_append (λ p. Follows ruby_grammar ruby_follow (ends_or (λ w. is_line w || is_end w)) p) (d.top_forms here) _ (
      λ w t w2 t2. λ y. (
        tt,
        tt,
        gv a_def (ends_or (λ w. is_line w || is_end w)) (none_is goes_on_expression) _
            (ends_neg (λ w. is_line w || is_end w) goes_on_expression definition_not),
      ),
      each_append (λ p. Follows ruby_grammar ruby_follow (ends_or (λ w. is_line w || is_end w)) p)
          (e.opening here.levels (d.module_from here)) _
          (each_opening (λ p. Follows ruby_grammar ruby_follow (ends_or (λ w. is_line w || is_end w)) p) here.levels
          (d.module_from here) (λ n. λ w t w2 t2 path. (
            λ w3 t3. λ ds. (
              λ w4 t4. tt,
              tt,
              tk a_def (ends_or (λ w. is_line w || is_end w)) (ends_or is_end) is_end _
                  (λ v u. u),
            ),
            tt,
            tk a_def (ends_or (λ w. is_line w || is_end w))
                (fits (d.opened_from here opens_module w2)) is_line _
                (λ v u. opened_fits (d.at_top here.path) _ (w2.text ∷ []) v (rw (terminal_is 50 v u) refl)),
          )))
          (each_opening (λ p. Follows ruby_grammar ruby_follow (ends_or (λ w. is_line w || is_end w)) p) here.levels
          (d.class_from here) (λ n. λ w t w2 t2 path. (
            λ p. (
              λ ds. (
                λ w4 t4. tt,
                tt,
                tk a_def (ends_or (λ w. is_line w || is_end w)) (ends_or is_end) is_end _
                    (λ v u. u),
              ),
              (refl, λ ds. tt),
              λ ts x rest a h. refl,
            ),
            (refl, λ p. (refl, λ ds. tt)),
            rl a_def (ends_or (λ w. is_line w || is_end w)) (fits (d.opened_from here opens_class w2))
                (parent (here.path ++ path) w2.at) _ refl
                (λ v u. opened_fits (d.at_top here.path) _ (w2.text ∷ []) v
                (either (is_less v) (is_line v) u (λ z. rw (terminal_is 75 v z) refl)
                (λ z. rw (terminal_is 50 v z) refl))),
          ))),
    )
    (member_follows (d.at_top here.path) here)

-- the law `follows`: in each alternative of each rule, what comes behind a call may follow the called rule
pub follows_rule : {t : Sort} (rule : Rule t) (p : Prod ruby t) → Among p (forms rule) →
    Follows ruby_grammar ruby_follow (fits rule) p
follows_rule rule p am = each_among (λ q. Follows ruby_grammar ruby_follow (fits rule) q) (follows_forms rule) am
