-- Each alternative of a rule stands among those of the rule beside it.
use Rattle.std.proofs.Common.{ℕ, zero, suc, Bool, true, false, List, [], ◌∷◌, ◌++◌, Option}
use Rattle.ruby_types.specs.declared.tree.Expr.{Expr}
use Rattle.ruby_types.specs.declared.tree.Expr.TheVariants as expr
use Rattle.ruby_types.specs.declared.tree.Stmt.{Stmt}
use Rattle.descent.specs.Grammar.{Prod, Among, first, later}
use Rattle.descent.proofs.Lifts.{up_give, up_token, up_call, up_mark}
use Rattle.ruby_grammar.specs.Marks.{Mark}
use Rattle.ruby_grammar.specs.Terminals.{Level, units, products, sums, comparisons, equalities, conjunctions}
use Rattle.ruby_grammar.specs.Terminals.{disjunctions}
use Rattle.ruby_grammar.specs.Rules.{ruby, Sort, Rule, Name, Body, Around, Scope, Block, a_def, a_statement}
use Rattle.ruby_grammar.specs.Rules.{an_expression, some_names, file, definitions, more_definitions, definition}
use Rattle.ruby_grammar.specs.Rules.{path_rest, parent, constant, heading, parameter_list, parameters, more_parameters}
use Rattle.ruby_grammar.specs.Rules.{PathOpening, opened_path}
use Rattle.ruby_grammar.specs.Rules.{more_readers, statements, more_statements, statement, simple_statement}
use Rattle.ruby_grammar.specs.Rules.{condition_behind, then_or_line, perhaps_line, arms_rest, perhaps_expression}
use Rattle.ruby_grammar.specs.Rules.{expression, choice_rest, operators, more_operators, unary, postfix, more_postfix}
use Rattle.ruby_grammar.specs.Rules.{primary, name_rest, perhaps_arguments, members, more_members, pairs, more_pairs}
use Rattle.ruby_grammar.specs.Rules.{pair, text_parts}
use Rattle.ruby_grammar.specs.Language.{forms}
use Rattle.ruby_grammar.specs.Expressions as e
use Rattle.ruby_grammar.specs.Statements as s
use Rattle.ruby_grammar.specs.Definitions as d
use Rattle.ruby_grammar.proofs.Beside.{More, a_level, settings, levels_with, flag_with, body_with, around_with}
use Rattle.ruby_grammar.proofs.Beside.{scope_with, beside, Same, module_same, class_same, method_same, assign_same}
use Rattle.ruby_grammar.proofs.Beside.{include_same, readers_same, arm_same, else_same, operator_same, operators_same}
use Rattle.ruby_grammar.proofs.Beside.{end_same, text_same, call_same, index_same, choice_same}

-- The productions of a list, one for one, with others between them.
pub data Within (m : More) (t : Sort) : List (Prod ruby t) → List (Prod ruby t) → Type 0 where
  none : Within m t [] []
  both : {p q : Prod ruby t} {ps qs : List (Prod ruby t)} → Same m p q → Within m t ps qs → Within m t (p ∷ ps) (q ∷ qs)
  extra : {q : Prod ruby t} {ps qs : List (Prod ruby t)} → Within m t ps qs → Within m t ps (q ∷ qs)

-- among these alternatives of the rule beside stands the same production
abbrev pub Pair : (m : More) (t : Sort) → Prod ruby t → List (Prod ruby t) → Type 0
Pair m t p qs = (q : Prod ruby t) × Among q qs × Same m p q

pair_later : (m : More) {t : Sort} {p q : Prod ruby t} {qs : List (Prod ruby t)} → Pair m t p qs → Pair m t p (q ∷ qs)
pair_later m h = (h.0, later h.1, h.2)

within_among : {m : More} {t : Sort} {p : Prod ruby t} {ps qs : List (Prod ruby t)} → Within m t ps qs → Among p ps →
    Pair m t p qs
within_among none am = elim am [ ]
within_among (both {q = q} u h) first = (q, first, u)
within_among {m} (both u h) (later am) = pair_later m (within_among h am)
within_among {m} (extra h) am = pair_later m (within_among h am)

append : {m : More} {t : Sort} {ps qs ps' qs' : List (Prod ruby t)} → Within m t ps qs → Within m t ps' qs' →
    Within m t (ps ++ ps') (qs ++ qs')
append none k = k
append (both u h) k = both u (append h k)
append (extra h) k = extra (append h k)

opening : {t : Sort} (m : More) (levels : ℕ) (f f' : ℕ → Prod ruby t) →
    ((n : ℕ) → Same m (f n) (f' (levels_with m n))) →
    Within m t (e.opening levels f) (e.opening (levels_with m levels) f')
opening a_level zero f f' h = extra none
opening a_level (suc n) f f' h = both (h n) none
opening settings zero f f' h = none
opening settings (suc n) f f' h = both (h n) none

setting_within : (m : More) (sets : Bool) (here here' : Around) →
    Same m (s.setting_ivar here) (s.setting_ivar here') →
    Within m a_statement (s.where_it_may sets (s.setting_ivar here))
    (s.where_it_may (flag_with m sets) (s.setting_ivar here'))
setting_within a_level true here here' h = both h none
setting_within a_level false here here' h = none
setting_within settings true here here' h = both h none
setting_within settings false here here' h = extra none

members_within : (m : More) (top : Bool) (here : Body) →
    Within m a_def (d.member_forms top here) (d.member_forms top (body_with m here))
members_within m true here = none
members_within m false here =
    both (include_same m) (both (readers_same m here)
    (opening m here.levels (d.method_from here) (d.method_from (body_with m here)) (method_same m here)))

path_within : (m : More) (more : Bool) (ending : Option Mark) (names : List Name) →
    Within m some_names (e.path_rest_forms more ending names) (e.path_rest_forms more ending names)
path_within m true ending names = both (up_token λ w t. up_token λ v u. up_call λ y. up_give)
    (both (end_same m ending names) none)
path_within m false ending names = both (end_same m ending names) none

opened_within : (m : More) (more : Bool) (how : PathOpening) (names : List Name) →
    Within m some_names (d.opened_path_forms more how names) (d.opened_path_forms more how names)
opened_within m true how names = both (up_token λ w t. up_token λ v u. up_call λ y. up_give)
    (both (up_mark up_give) none)
opened_within m false how names = both (up_mark up_give) none

elsif_within : (m : More) (may_elsif : Bool) (levels : ℕ) (sets : Bool) (arms : List (Expr × List Stmt)) (b : Block) →
    Within m a_statement (s.elsif_forms levels sets may_elsif arms b)
    (s.elsif_forms (levels_with m levels) (flag_with m sets) may_elsif arms b)
elsif_within m true levels sets arms b = both (up_token λ w t. arm_same m levels sets true (λ x. x) b.names arms) none
elsif_within m false levels sets arms b = none

branch_within : (m : More) (closed : Bool) (levels : ℕ) (sets may_elsif : Bool) (arms : List (Expr × List Stmt))
    (b : Block) →
    Within m a_statement (s.branch_forms closed levels sets may_elsif arms b)
    (s.branch_forms closed (levels_with m levels) (flag_with m sets) may_elsif arms b)
branch_within m true levels sets may_elsif arms b = both (else_same m levels sets arms b)
    (elsif_within m may_elsif levels sets arms b)
branch_within m false levels sets may_elsif arms b = none

operators_within : (m : More) (level : Level) (here : Scope) (x : Expr) →
    Within m an_expression (e.more_operators_forms level here x) (e.more_operators_forms level (scope_with m here) x)
operators_within m units here x = both up_give none
operators_within m products here x = both (operator_same m products here x) (both up_give none)
operators_within m sums here x = both (operator_same m sums here x) (both up_give none)
operators_within m comparisons here x = both (operator_same m comparisons here x) (both up_give none)
operators_within m equalities here x = both (operator_same m equalities here x) (both up_give none)
operators_within m conjunctions here x = both (operator_same m conjunctions here x) (both up_give none)
operators_within m disjunctions here x = both (operator_same m disjunctions here x) (both up_give none)

within : (m : More) {t : Sort} (rule : Rule t) → Within m t (forms rule) (forms (beside m rule))
within m (file levels anywhere) = both (up_token λ w t. up_call λ ds. up_give) (both (up_call λ ds. up_give) none)
within m (definitions here ds) = both (up_call λ y. up_call λ z. up_give) (both up_give none)
within m (more_definitions here ds) = both (up_token λ w t. up_call λ y. up_give) (both up_give none)
within m (definition here) =
    append (both (assign_same m here)
    (append (opening m here.levels (d.module_from here) (d.module_from (body_with m here)) (module_same m here))
    (opening m here.levels (d.class_from here) (d.class_from (body_with m here)) (class_same m here))))
    (members_within m (d.at_top here.path) here)
within m (path_rest more ending names) = path_within m more ending names
within m (opened_path more how names) = opened_within m more how names
within m (parent path at) = both (up_token λ w t. up_call λ c. up_token λ v u. up_give)
    (both (up_token λ w t. up_give) none)
within m (constant ending) = both (up_token λ w t. up_token λ v u. up_call λ y. up_give)
    (both (up_token λ w t. up_call λ y. up_give) none)
within m (heading path) = both (up_token λ w t. up_token λ v u. up_token λ v u. up_mark up_give)
    (both (up_token λ w t. up_mark up_give) none)
within m (parameter_list levels) = both (up_token λ w t. up_give)
    (opening m levels d.parameters_from d.parameters_from
    (λ k. up_token λ w t. up_call λ y. up_token λ v u. up_token λ v u. up_give))
within m parameters = both (up_token λ w t. up_call λ y. up_give) (both up_give none)
within m (more_parameters names) = both (up_token λ w t. up_token λ v u. up_call λ y. up_give) (both up_give none)
within m (more_readers path names) = both (up_token λ w t. up_token λ v u. up_mark (up_call λ y. up_give))
    (both up_give none)
within m (statements here ss) = both (up_call λ y. up_call λ z. up_give) (both up_give none)
within m (more_statements here ss) = both (up_token λ w t. up_call λ y. up_give) (both up_give none)
within m (statement here) =
    both (up_call λ y. up_call λ z. up_give)
    (append (opening m here.levels (s.if_from here) (s.if_from (around_with m here))
    (λ n. up_token λ w t. arm_same m n here.sets true (λ x. x) here.names []))
    (opening m here.levels (s.unless_from here) (s.unless_from (around_with m here))
    (λ n. up_token λ w t. arm_same m n here.sets false (λ x. expr.Not x) here.names [])))
within m (simple_statement here) =
    both (up_token λ w t. up_call λ y. up_give)
    (both (up_token λ w t. up_call λ y. up_give)
    (both (up_token λ w t. up_token λ v u. up_call λ y. up_give)
    (append (setting_within m here.sets here (around_with m here)
    (up_token λ w t. up_token λ v u. up_call λ y. up_give))
    (both (up_call λ y. up_give) none))))
within m (condition_behind levels t) = both (up_token λ w u. up_call λ y. up_give)
    (both (up_token λ w u. up_call λ y. up_give) (both up_give none))
within m then_or_line = both (up_token λ w t. up_call λ y. up_give) (both (up_token λ w t. up_give) none)
within m perhaps_line = both (up_token λ w t. up_give) (both up_give none)
within m (arms_rest levels sets may_elsif arms b) =
    both (up_token λ w t. up_give) (branch_within m b.closed levels sets may_elsif arms b)
within m (perhaps_expression here) = both (up_call λ y. up_give) (both up_give none)
within m (expression here) = both (up_call λ y. up_call λ z. up_give) none
within m (choice_rest here x) = both (choice_same m here x) (both up_give none)
within m (operators level here) = both (operators_same m level here) none
within m (more_operators level here x) = operators_within m level here x
within m (unary here) =
    append (opening m here.levels (e.not_from here) (e.not_from (scope_with m here))
    (λ n. up_token λ w t. up_call λ y. up_give))
    (append (opening m here.levels (e.minus_from here) (e.minus_from (scope_with m here))
    (λ n. up_token λ w t. up_call λ y. up_give))
    (both (up_call λ y. up_give) none))
within m (postfix here) = both (up_call λ y. up_call λ z. up_give) none
within m (more_postfix here x) =
    both (call_same m here x)
    (append (opening m here.levels (e.index_from here x) (e.index_from (scope_with m here) x) (index_same m here x))
    (both up_give none))
within m (primary here) =
    both (up_token λ w t. up_give)
    (both (text_same m here)
    (both (up_token λ w t. up_give)
    (both (up_token λ w t. up_give)
    (both (up_token λ w t. up_give)
    (both (up_token λ w t. up_give)
    (both (up_token λ w t. up_give)
    (both (up_token λ w t. up_call λ y. up_give)
    (both (up_token λ w t. up_give)
    (both (up_call λ y. up_give)
    (append (opening m here.levels (e.array_from here) (e.array_from (scope_with m here))
    (λ n. up_token λ w t. up_call λ y. up_token λ v u. up_give))
    (append (opening m here.levels (e.hash_from here) (e.hash_from (scope_with m here))
    (λ n. up_token λ w t. up_call λ y. up_token λ v u. up_give))
    (opening m here.levels (e.group_from here) (e.group_from (scope_with m here))
    (λ n. up_token λ w t. up_call λ y. up_token λ v u. up_give)))))))))))))
within m (name_rest here name) =
    append (opening m here.levels (e.call_from here name) (e.call_from (scope_with m here) name)
    (λ n. up_token λ w t. up_call λ y. up_token λ v u. up_give)) (both up_give none)
within m (perhaps_arguments here) =
    append (opening m here.levels (e.arguments_from here) (e.arguments_from (scope_with m here))
    (λ n. up_token λ w t. up_call λ y. up_token λ v u. up_give)) (both up_give none)
within m (members here xs) = both (up_call λ y. up_call λ z. up_give) (both up_give none)
within m (more_members here xs) = both (up_token λ w t. up_call λ y. up_give) (both up_give none)
within m (pairs here ps) = both (up_call λ y. up_call λ z. up_give) (both up_give none)
within m (more_pairs here ps) = both (up_token λ w t. up_call λ y. up_give) (both up_give none)
within m (pair here) = both (up_token λ w t. up_call λ y. up_give)
    (both (up_call λ y. up_token λ w t. up_call λ z. up_give) none)
within m (text_parts here double parts) =
    both (up_token λ w t. up_call λ y. up_give)
    (append (opening m here.levels (e.inside_from here double parts) (e.inside_from (scope_with m here) double parts)
    (λ n. up_token λ w t. up_call λ y. up_token λ v u. up_call λ z. up_give)) (both up_give none))

-- the law `among`: the rule beside has each alternative of the rule
pub among_beside : (m : More) {t : Sort} (rule : Rule t) (p : Prod ruby t) → Among p (forms rule) →
    Pair m t p (forms (beside m rule))
among_beside m rule p am = within_among (within m rule) am
