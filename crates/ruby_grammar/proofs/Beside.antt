-- The rules beside each rule: of one level more, or where `@x =` may stand in any method. They have the same
-- productions, and more.
use Rattle.std.proofs.Common.{ℕ, suc, Bool, true, false, List, Option, Some, None}
use Rattle.ruby_types.specs.declared.tree.Expr.{Expr}
use Rattle.ruby_types.specs.declared.tree.Stmt.{Stmt}
use Rattle.descent.specs.Grammar.{Prod}
use Rattle.descent.proofs.Lifts.{Lift, Up, up_give, up_token, up_call, up_mark}
use Rattle.ruby_grammar.specs.Marks.{Mark}
use Rattle.ruby_grammar.specs.Terminals.{Level, units, products, sums, comparisons, equalities, conjunctions}
use Rattle.ruby_grammar.specs.Terminals.{disjunctions}
use Rattle.ruby_grammar.specs.Rules.{ruby, Sort, Rule, Name, Body, Around, Scope, Block, file, definitions}
use Rattle.ruby_grammar.specs.Rules.{more_definitions, definition, path_rest, parent, constant, heading, parameter_list}
use Rattle.ruby_grammar.specs.Rules.{opened_path}
use Rattle.ruby_grammar.specs.Rules.{parameters, more_parameters, more_readers, statements, more_statements, statement}
use Rattle.ruby_grammar.specs.Rules.{simple_statement, condition_behind, then_or_line, perhaps_line, arms_rest}
use Rattle.ruby_grammar.specs.Rules.{perhaps_expression, expression, choice_rest, operators, more_operators, unary}
use Rattle.ruby_grammar.specs.Rules.{postfix, more_postfix, primary, name_rest, perhaps_arguments, members}
use Rattle.ruby_grammar.specs.Rules.{more_members, pairs, more_pairs, pair, text_parts}
use Rattle.ruby_grammar.specs.Expressions as e
use Rattle.ruby_grammar.specs.Statements as s
use Rattle.ruby_grammar.specs.Definitions as d

-- what there is more of
pub data More : Type 0 where
  a_level : More
  settings : More

-- so many levels with what there is more of: one more, or as many
abbrev pub levels_with : More → ℕ → ℕ
levels_with a_level n = suc n
levels_with settings n = n

-- whether `@x =` may stand, with what there is more of: as before, or always
abbrev pub flag_with : More → Bool → Bool
flag_with a_level b = b
flag_with settings b = true

-- what stands around a definition, with a level or settings more
abbrev pub body_with : More → Body → Body
body_with m here = d.body (levels_with m here.levels) (flag_with m here.anywhere) here.path

-- what stands around a statement, with a level or settings more
abbrev pub around_with : More → Around → Around
around_with m here = s.around (levels_with m here.levels) (flag_with m here.sets) here.names

-- what stands around an expression, with a level more; settings don't touch it
abbrev pub scope_with : More → Scope → Scope
scope_with m here = s.scope (levels_with m here.levels) here.names

-- the rule that says what this one says, and what a level or settings more let it say
abbrev pub beside : More → {t : Sort} → Rule t → Rule t
beside m (file levels anywhere) = file (levels_with m levels) (flag_with m anywhere)
beside m (definitions here ds) = definitions (body_with m here) ds
beside m (more_definitions here ds) = more_definitions (body_with m here) ds
beside m (definition here) = definition (body_with m here)
beside m (path_rest more ending names) = path_rest more ending names
beside m (opened_path more how names) = opened_path more how names
beside m (parent path at) = parent path at
beside m (constant ending) = constant ending
beside m (heading path) = heading path
beside m (parameter_list levels) = parameter_list (levels_with m levels)
beside m parameters = parameters
beside m (more_parameters names) = more_parameters names
beside m (more_readers path names) = more_readers path names
beside m (statements here ss) = statements (around_with m here) ss
beside m (more_statements here ss) = more_statements (around_with m here) ss
beside m (statement here) = statement (around_with m here)
beside m (simple_statement here) = simple_statement (around_with m here)
beside m (condition_behind levels t) = condition_behind (levels_with m levels) t
beside m then_or_line = then_or_line
beside m perhaps_line = perhaps_line
beside m (arms_rest levels sets may_elsif arms b) = arms_rest (levels_with m levels) (flag_with m sets) may_elsif arms b
beside m (perhaps_expression here) = perhaps_expression (scope_with m here)
beside m (expression here) = expression (scope_with m here)
beside m (choice_rest here x) = choice_rest (scope_with m here) x
beside m (operators level here) = operators level (scope_with m here)
beside m (more_operators level here x) = more_operators level (scope_with m here) x
beside m (unary here) = unary (scope_with m here)
beside m (postfix here) = postfix (scope_with m here)
beside m (more_postfix here x) = more_postfix (scope_with m here) x
beside m (primary here) = primary (scope_with m here)
beside m (name_rest here name) = name_rest (scope_with m here) name
beside m (perhaps_arguments here) = perhaps_arguments (scope_with m here)
beside m (members here xs) = members (scope_with m here) xs
beside m (more_members here xs) = more_members (scope_with m here) xs
beside m (pairs here ps) = pairs (scope_with m here) ps
beside m (more_pairs here ps) = more_pairs (scope_with m here) ps
beside m (pair here) = pair (scope_with m here)
beside m (text_parts here double parts) = text_parts (scope_with m here) double parts

-- a level more keeps what is barred, and more settings what is too deep
abbrev pub keeps_deep : More → Bool
keeps_deep a_level = false
keeps_deep settings = true

-- a level more still bars `@x =`, and settings don't
abbrev pub keeps_barred : More → Bool
keeps_barred a_level = true
keeps_barred settings = false

-- what there is more of as a lift, for the theory of faults that more would let pass
abbrev pub ruby_lift : More → Lift ruby
ruby_lift m = record { up = beside m; keeps_depth = keeps_deep m; keeps_bars = keeps_barred m }

-- the second production is the first with the rules beside in place of the rules that it calls
abbrev pub Same : More → {t : Sort} → Prod ruby t → Prod ruby t → Type 0
Same m {t} p q = Up (ruby_lift m) t p q

-- ---- productions that stand in more than one place, or look at what there is more of

-- a `module` with a level or settings more is the same production of the rules beside
pub module_same : (m : More) (here : Body) (n : ℕ) →
    Same m (d.module_from here n) (d.module_from (body_with m here) (levels_with m n))
module_same m here n = up_token λ w t. up_token λ v u. up_call λ path. up_token λ v u.
    up_call λ ds. up_token λ v u. up_give

-- a `class` with a level or settings more is the same production of the rules beside
pub class_same : (m : More) (here : Body) (n : ℕ) →
    Same m (d.class_from here n) (d.class_from (body_with m here) (levels_with m n))
class_same m here n = up_token λ w t. up_token λ v u. up_call λ path. up_call λ p. up_call λ ds. up_token λ v u. up_give

-- a `def` with a level or settings more is the same: its statements' flag is that of the name, or always true
pub method_same : (m : More) (here : Body) (n : ℕ) →
    Same m (d.method_from here n) (d.method_from (body_with m here) (levels_with m n))
method_same a_level here n = up_token λ w t. up_call λ h. up_call λ names. up_call λ b. up_token λ v u. up_give
method_same settings here n = up_token λ w t. up_call λ h. up_call λ names. up_call λ b. up_token λ v u. up_give

-- a constant's `=` with a level or settings more is the same production of the rules beside
pub assign_same : (m : More) (here : Body) → Same m (d.assign_from here) (d.assign_from (body_with m here))
assign_same m here = up_token λ w t. up_token λ v u. up_mark (up_call λ x. up_give)

-- an `include` looks at neither levels nor settings
pub include_same : (m : More) → Same m d.include_from d.include_from
include_same m = up_token λ w t. up_call λ c. up_give

-- an `attr_reader` looks at neither levels nor settings, only at the path of the body
pub readers_same : (m : More) (here : Body) → Same m (d.readers_from here) (d.readers_from (body_with m here))
readers_same m here = up_token λ w t. up_token λ v u. up_mark (up_call λ names. up_give)

-- an arm of an `if` or `unless` with a level or settings more is the same production of the rules beside
pub arm_same : (m : More) (levels : ℕ) (sets may_elsif : Bool) (condition : Expr → Expr) (names : List Name)
    (arms : List (Expr × List Stmt)) →
    Same m (s.arm_from levels sets may_elsif condition names arms)
    (s.arm_from (levels_with m levels) (flag_with m sets) may_elsif condition names arms)
arm_same m levels sets may_elsif condition names arms = up_call λ x. up_call λ y. up_call λ b. up_call λ z. up_give

-- an `else` with a level or settings more is the same production of the rules beside
pub else_same : (m : More) (levels : ℕ) (sets : Bool) (arms : List (Expr × List Stmt)) (b : Block) →
    Same m (s.else_more levels sets arms b) (s.else_more (levels_with m levels) (flag_with m sets) arms b)
else_same m levels sets arms b = up_token λ w t. up_call λ y. up_call λ c. up_token λ v u. up_give

-- an operator and its second operand with a level more are the same production of the rules beside
pub operator_same : (m : More) (level : Level) (here : Scope) (x : Expr) →
    Same m (e.operator_more level here x) (e.operator_more level (scope_with m here) x)
operator_same m units here x = up_token λ w t. up_call λ y. up_call λ z. up_give
operator_same m products here x = up_token λ w t. up_call λ y. up_call λ z. up_give
operator_same m sums here x = up_token λ w t. up_call λ y. up_call λ z. up_give
operator_same m comparisons here x = up_token λ w t. up_call λ y. up_call λ z. up_give
operator_same m equalities here x = up_token λ w t. up_call λ y. up_give
operator_same m conjunctions here x = up_token λ w t. up_call λ y. up_call λ z. up_give
operator_same m disjunctions here x = up_token λ w t. up_call λ y. up_call λ z. up_give

-- an expression of operators with a level more is the same production of the rules beside
pub operators_same : (m : More) (level : Level) (here : Scope) →
    Same m (e.operators_from level here) (e.operators_from level (scope_with m here))
operators_same m units here = up_call λ y. up_give
operators_same m products here = up_call λ y. up_call λ z. up_give
operators_same m sums here = up_call λ y. up_call λ z. up_give
operators_same m comparisons here = up_call λ y. up_call λ z. up_give
operators_same m equalities here = up_call λ y. up_call λ z. up_give
operators_same m conjunctions here = up_call λ y. up_call λ z. up_give
operators_same m disjunctions here = up_call λ y. up_call λ z. up_give

-- a path's end looks at neither levels nor settings
pub end_same : (m : More) (ending : Option Mark) (names : List Name) →
    Same m (e.path_end ending names) (e.path_end ending names)
end_same m None names = up_give
end_same m (Some n) names = up_mark up_give

-- a text with a level more is the same production of the rules beside
pub text_same : (m : More) (here : Scope) → Same m (e.text_from here) (e.text_from (scope_with m here))
text_same m here = up_token λ w t. up_call λ parts. up_token λ v u. up_give

-- a call `.name` with a level more is the same production of the rules beside
pub call_same : (m : More) (here : Scope) (x : Expr) →
    Same m (e.method_call here x) (e.method_call (scope_with m here) x)
call_same m here x = up_token λ w t. up_token λ v u. up_call λ y. up_call λ z. up_give

-- an index in brackets with a level more is the same production of the rules beside
pub index_same : (m : More) (here : Scope) (x : Expr) (n : ℕ) →
    Same m (e.index_from here x n) (e.index_from (scope_with m here) x (levels_with m n))
index_same m here x n = up_token λ w t. up_call λ y. up_token λ v u. up_call λ z. up_give

-- a choice `? :` with a level more is the same production of the rules beside
pub choice_same : (m : More) (here : Scope) (x : Expr) →
    Same m (e.choice_more here x) (e.choice_more (scope_with m here) x)
choice_same m here x = up_token λ w t. up_call λ y. up_token λ v u. up_call λ z. up_give
