-- Each rule has a sentence.
use Rattle.std.proofs.Common.{ℕ, Bool, true, false, List, [], ◌∷◌, ◌++◌, Option, Some, None, refl}
use Rattle.ruby_token.specs.declared.token.Op.TheVariants as op
use Rattle.ruby_token.specs.declared.token.TokenKind.TheVariants as k
use Rattle.ruby_types.specs.declared.tree.Expr.{Expr}
use Rattle.descent.specs.Grammar.{give, Among, first, later, Is, is_given, is_word, is_marked, Item, word, marked, only}
use Rattle.descent.proofs.Complete.{extend, alone}
use Rattle.ruby_grammar.specs.Words.{Word}
use Rattle.ruby_grammar.specs.Marks.{Mark}
use Rattle.ruby_grammar.specs.Terminals.{Level, units, products, sums, comparisons, equalities, conjunctions}
use Rattle.ruby_grammar.specs.Terminals.{disjunctions}
use Rattle.ruby_grammar.specs.Rules.{ruby, Val, Name, Known, Sort, Rule, Body, Around, Scope, file, definitions}
use Rattle.ruby_grammar.specs.Rules.{more_definitions, definition, path_rest, parent, constant, heading, parameter_list}
use Rattle.ruby_grammar.specs.Rules.{PathOpening, opened_path}
use Rattle.ruby_grammar.specs.Rules.{parameters, more_parameters, more_readers, statements, more_statements, statement}
use Rattle.ruby_grammar.specs.Rules.{simple_statement, condition_behind, then_or_line, perhaps_line, arms_rest}
use Rattle.ruby_grammar.specs.Rules.{perhaps_expression, expression, choice_rest, operators, more_operators, unary}
use Rattle.ruby_grammar.specs.Rules.{postfix, more_postfix, primary, name_rest, perhaps_arguments, members}
use Rattle.ruby_grammar.specs.Rules.{more_members, pairs, more_pairs, pair, text_parts}
use Rattle.ruby_grammar.specs.Language.{forms, ruby_grammar}
use Rattle.ruby_grammar.specs.Expressions as e
use Rattle.ruby_grammar.specs.Statements as s
use Rattle.ruby_grammar.specs.Definitions as d
use Rattle.ruby_grammar.proofs.Tools.{among_behind}
use Rattle.ruby_grammar.proofs.Going.{a_word, an_op}

-- the rule has a sentence: some items that it says, with their value
abbrev pub End : {t : Sort} → Rule t → Type 0
End {t} rule = (ts : List (Item ruby)) × (x : Val t) × Is ruby_grammar t (only rule) ts x

-- a constant's word, for examples of sentences
abbrev pub const_word : Word
const_word = a_word k.Const []

abbrev line_word : Word
line_word = a_word k.Line []

-- the rule gives at once
abbrev pub nothing_said : {t : Sort} (rule : Rule t) (x : Val t) → Among (give x) (forms rule) → End rule
nothing_said rule x am = ([], x, alone ruby_grammar am is_given)

primary_end : (here : Scope) → End (primary here)
primary_end here = (word (a_word k.Int []) ∷ [], _, alone ruby_grammar first (is_word refl is_given))

-- behind a primary nothing need follow
abbrev pub more_postfix_end : (here : Scope) (x : Expr) → End (more_postfix here x)
more_postfix_end here x = nothing_said (more_postfix here x) x
    (later (among_behind (e.opening here.levels (e.index_from here x)) first))

postfix_end : (here : Scope) → End (postfix here)
postfix_end here =
    let a = primary_end here in
    let b = more_postfix_end here a.1 in
    (a.0 ++ b.0, b.1, alone ruby_grammar first (extend ruby_grammar a.2 b.2))

unary_end : (here : Scope) → End (unary here)
unary_end here =
    let a = postfix_end here in (
      a.0,
      a.1,
      alone ruby_grammar
          (among_behind (e.opening here.levels (e.not_from here))
          (among_behind (e.opening here.levels (e.minus_from here)) first)) a.2,
    )

-- behind an operand no operator need follow
abbrev pub more_operators_end : (level : Level) (here : Scope) (x : Expr) → End (more_operators level here x)
more_operators_end units here x = nothing_said (more_operators units here x) x first
more_operators_end products here x = nothing_said (more_operators products here x) x (later first)
more_operators_end sums here x = nothing_said (more_operators sums here x) x (later first)
more_operators_end comparisons here x = nothing_said (more_operators comparisons here x) x (later first)
more_operators_end equalities here x = nothing_said (more_operators equalities here x) x (later first)
more_operators_end conjunctions here x = nothing_said (more_operators conjunctions here x) x (later first)
more_operators_end disjunctions here x = nothing_said (more_operators disjunctions here x) x (later first)

units_end : (here : Scope) → End (operators units here)
units_end here =
    let a = unary_end here in
    (a.0, a.1, alone ruby_grammar first a.2)

products_end : (here : Scope) → End (operators products here)
products_end here =
    let a = units_end here in
    let b = more_operators_end products here a.1 in
    (a.0 ++ b.0, b.1, alone ruby_grammar first (extend ruby_grammar a.2 b.2))

sums_end : (here : Scope) → End (operators sums here)
sums_end here =
    let a = products_end here in
    let b = more_operators_end sums here a.1 in
    (a.0 ++ b.0, b.1, alone ruby_grammar first (extend ruby_grammar a.2 b.2))

comparisons_end : (here : Scope) → End (operators comparisons here)
comparisons_end here =
    let a = sums_end here in
    let b = more_operators_end comparisons here a.1 in
    (a.0 ++ b.0, b.1, alone ruby_grammar first (extend ruby_grammar a.2 b.2))

equalities_end : (here : Scope) → End (operators equalities here)
equalities_end here =
    let a = comparisons_end here in
    let b = more_operators_end equalities here a.1 in
    (a.0 ++ b.0, b.1, alone ruby_grammar first (extend ruby_grammar a.2 b.2))

conjunctions_end : (here : Scope) → End (operators conjunctions here)
conjunctions_end here =
    let a = equalities_end here in
    let b = more_operators_end conjunctions here a.1 in
    (a.0 ++ b.0, b.1, alone ruby_grammar first (extend ruby_grammar a.2 b.2))

disjunctions_end : (here : Scope) → End (operators disjunctions here)
disjunctions_end here =
    let a = conjunctions_end here in
    let b = more_operators_end disjunctions here a.1 in
    (a.0 ++ b.0, b.1, alone ruby_grammar first (extend ruby_grammar a.2 b.2))

operators_end : (level : Level) (here : Scope) → End (operators level here)
operators_end units here = units_end here
operators_end products here = products_end here
operators_end sums here = sums_end here
operators_end comparisons here = comparisons_end here
operators_end equalities here = equalities_end here
operators_end conjunctions here = conjunctions_end here
operators_end disjunctions here = disjunctions_end here

expression_end : (here : Scope) → End (expression here)
expression_end here =
    let a = disjunctions_end here in
    let b = nothing_said (choice_rest here a.1) a.1 (later first) in
    (a.0 ++ b.0, b.1, alone ruby_grammar first (extend ruby_grammar a.2 b.2))

path_end : (more : Bool) (ending : Option Mark) (names : List Name) → End (path_rest more ending names)
path_end true None names = nothing_said (path_rest true None names) names (later first)
path_end false None names = nothing_said (path_rest false None names) names first
path_end true (Some m) names = (marked m ∷ [], names, alone ruby_grammar (later first) (is_marked is_given))
path_end false (Some m) names = (marked m ∷ [], names, alone ruby_grammar first (is_marked is_given))

opened_end : (more : Bool) (how : PathOpening) (names : List Name) → End (opened_path more how names)
opened_end true how names = (marked _ ∷ [], names, alone ruby_grammar (later first) (is_marked is_given))
opened_end false how names = (marked _ ∷ [], names, alone ruby_grammar first (is_marked is_given))

simple_end : (here : Around) → End (simple_statement here)
simple_end here =
    let a = expression_end (s.scope_of here) in (
      a.0 ++ [],
      _,
      alone ruby_grammar
          (later (later (later (among_behind (s.where_it_may here.sets (s.setting_ivar here)) first))))
          (extend ruby_grammar a.2 is_given),
    )

condition_end : (levels : ℕ) (t : Known) → End (condition_behind levels t)
condition_end levels t = nothing_said (condition_behind levels t) t (later (later first))

statement_end : (here : Around) → End (statement here)
statement_end here =
    let a = simple_end here in
    let b = condition_end here.levels a.1 in
    (a.0 ++ b.0, b.1, alone ruby_grammar first (extend ruby_grammar a.2 b.2))

definition_end : (here : Body) → End (definition here)
definition_end here =
    let a = expression_end (s.scope here.levels []) in (
      word const_word ∷ word (an_op op.Assign) ∷ marked _ ∷ (a.0 ++ []),
      _,
      alone ruby_grammar first (is_word refl (is_word refl (is_marked (extend ruby_grammar a.2 is_given)))),
    )

constant_end : (ending : Option Mark) → End (constant ending)
constant_end ending =
    let a = path_end true ending ([] ∷ []) in (
      word const_word ∷ (a.0 ++ []),
      _,
      alone ruby_grammar (later first)
          (is_word refl (extend ruby_grammar a.2 is_given)),
    )

pair_end : (here : Scope) → End (pair here)
pair_end here =
    let a = expression_end here in (
      word (a_word k.Label []) ∷ (a.0 ++ []),
      _,
      alone ruby_grammar first (is_word refl (extend ruby_grammar a.2 is_given)),
    )

file_end : (levels : ℕ) (anywhere : Bool) → End (file levels anywhere)
file_end levels anywhere =
    let a = nothing_said (definitions (d.body levels anywhere []) []) [] (later first) in
    (a.0 ++ [], _, alone ruby_grammar (later first) (extend ruby_grammar a.2 is_given))

-- the law `ends`: each rule has a sentence, whatever stands around it, also where no level is left
pub ends_rule : {t : Sort} (rule : Rule t) → End rule
ends_rule (file levels anywhere) = file_end levels anywhere
ends_rule (definitions here ds) = nothing_said (definitions here ds) ds (later first)
ends_rule (more_definitions here ds) = nothing_said (more_definitions here ds) ds (later first)
ends_rule (definition here) = definition_end here
ends_rule (path_rest more ending names) = path_end more ending names
ends_rule (opened_path more how names) = opened_end more how names
ends_rule (parent path at) = (word line_word ∷ [], None, alone ruby_grammar (later first) (is_word refl is_given))
ends_rule (constant ending) = constant_end ending
ends_rule (heading path) = (
  word (a_word k.Name (120 ∷ [])) ∷ marked _ ∷ [],
  _,
  alone ruby_grammar (later first) (is_word refl (is_marked is_given)),
)
ends_rule (parameter_list levels) =
    (word line_word ∷ [], [], alone ruby_grammar first (is_word refl is_given))
ends_rule parameters = nothing_said parameters [] (later first)
ends_rule (more_parameters names) = nothing_said (more_parameters names) names (later first)
ends_rule (more_readers path names) = nothing_said (more_readers path names) names (later first)
ends_rule (statements here ss) = nothing_said (statements here ss) (s.block ss here.names true) (later first)
ends_rule (more_statements here ss) = nothing_said (more_statements here ss) (s.block ss here.names false) (later first)
ends_rule (statement here) = statement_end here
ends_rule (simple_statement here) = simple_end here
ends_rule (condition_behind levels t) = condition_end levels t
ends_rule then_or_line = (word line_word ∷ [], tt, alone ruby_grammar (later first) (is_word refl is_given))
ends_rule perhaps_line = nothing_said perhaps_line tt (later first)
ends_rule (arms_rest levels sets may_elsif arms b) =
    (word (a_word k.Name (101 ∷ 110 ∷ 100 ∷ [])) ∷ [], _, alone ruby_grammar first (is_word refl is_given))
ends_rule (perhaps_expression here) = nothing_said (perhaps_expression here) None (later first)
ends_rule (expression here) = expression_end here
ends_rule (choice_rest here x) = nothing_said (choice_rest here x) x (later first)
ends_rule (operators level here) = operators_end level here
ends_rule (more_operators level here x) = more_operators_end level here x
ends_rule (unary here) = unary_end here
ends_rule (postfix here) = postfix_end here
ends_rule (more_postfix here x) = more_postfix_end here x
ends_rule (primary here) = primary_end here
ends_rule (name_rest here name) = nothing_said (name_rest here name) _
    (among_behind (e.opening here.levels (e.call_from here name)) first)
ends_rule (perhaps_arguments here) = nothing_said (perhaps_arguments here) []
    (among_behind (e.opening here.levels (e.arguments_from here)) first)
ends_rule (members here xs) = nothing_said (members here xs) xs (later first)
ends_rule (more_members here xs) = nothing_said (more_members here xs) xs (later first)
ends_rule (pairs here ps) = nothing_said (pairs here ps) ps (later first)
ends_rule (more_pairs here ps) = nothing_said (more_pairs here ps) ps (later first)
ends_rule (pair here) = pair_end here
ends_rule (text_parts here double parts) = nothing_said (text_parts here double parts) parts
    (later (among_behind (e.opening here.levels (e.inside_from here double parts)) first))
