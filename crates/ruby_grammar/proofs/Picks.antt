-- The rule beside chooses beside what a rule chooses.
use Rattle.std.proofs.Common.{◌≡◌, ℕ, zero, suc, Bool, true, false, ◌||◌, ◌&&◌, List, [], Option, refl, subst}
use Rattle.std.proofs.Common.{if◌then◌else◌}
use Rattle.ruby_types.specs.declared.tree.Expr.{Expr}
use Rattle.ruby_types.specs.declared.tree.Expr.TheVariants as expr
use Rattle.ruby_types.specs.declared.tree.Stmt.{Stmt}
use Rattle.descent.specs.Grammar.{Prod}
use Rattle.descent.specs.Reading.{Choice, take, too_deep, barred, nothing}
use Rattle.descent.proofs.Lifts.{up_give, up_token, up_call, up_mark}
use Rattle.ruby_grammar.specs.Words.{Word}
use Rattle.ruby_grammar.specs.Marks.{Mark}
use Rattle.ruby_grammar.specs.Terminals.{Level, units, products, sums, comparisons, equalities, conjunctions}
use Rattle.ruby_grammar.specs.Terminals.{disjunctions}
use Rattle.ruby_grammar.specs.Terminals.{is_operator, is_not, is_minus, is_dot, is_path, is_const, is_comma, is_int}
use Rattle.ruby_grammar.specs.Terminals.{is_text_open, is_text_piece, is_inside_open, is_sym, is_label, is_ivar, is_nil}
use Rattle.ruby_grammar.specs.Terminals.{is_true, is_false, is_self, is_name, is_open_paren, is_open_bracket}
use Rattle.ruby_grammar.specs.Terminals.{is_open_brace}
use Rattle.ruby_grammar.specs.Terminals.{is_tight_paren, is_tight_bracket, is_ask, is_line, is_less, is_module}
use Rattle.ruby_grammar.specs.Terminals.{is_class}
use Rattle.ruby_grammar.specs.Terminals.{is_def, is_include, is_attr_reader, is_variable, is_assign, is_return}
use Rattle.ruby_grammar.specs.Terminals.{is_raise}
use Rattle.ruby_grammar.specs.Terminals.{is_if, is_unless, is_elsif, is_else, is_end, is_then}
use Rattle.ruby_grammar.specs.Rules.{ruby, Sort, Rule, Name, Body, Around, Scope, Block, a_def, a_statement}
use Rattle.ruby_grammar.specs.Rules.{an_expression, some_names, file, definitions, more_definitions, definition}
use Rattle.ruby_grammar.specs.Rules.{path_rest, parent, constant, heading, parameter_list, parameters, more_parameters}
use Rattle.ruby_grammar.specs.Rules.{PathOpening, opened_path}
use Rattle.ruby_grammar.specs.Rules.{more_readers, statements, more_statements, statement, simple_statement}
use Rattle.ruby_grammar.specs.Rules.{condition_behind, then_or_line, perhaps_line, arms_rest, perhaps_expression}
use Rattle.ruby_grammar.specs.Rules.{expression, choice_rest, operators, more_operators, unary, postfix, more_postfix}
use Rattle.ruby_grammar.specs.Rules.{primary, name_rest, perhaps_arguments, members, more_members, pairs, more_pairs}
use Rattle.ruby_grammar.specs.Rules.{pair, text_parts}
use Rattle.ruby_grammar.specs.Expressions as e
use Rattle.ruby_grammar.specs.Statements as s
use Rattle.ruby_grammar.specs.Definitions as d
use Rattle.ruby_grammar.specs.Choices.{pick_opened_path}
use Rattle.ruby_grammar.specs.Choices.{next_is, pick, deepen, starts_expression, starts_statement, starts_pair}
use Rattle.ruby_grammar.specs.Choices.{starts_definition, pick_member, pick_path_rest, pick_set_ivar, pick_elsif}
use Rattle.ruby_grammar.specs.Choices.{pick_branch, pick_more_operators}
use Rattle.descent.proofs.Laws.{take_is}
use Rattle.ruby_grammar.proofs.Beside.{More, a_level, settings, levels_with, flag_with, body_with, around_with}
use Rattle.ruby_grammar.proofs.Beside.{scope_with, beside, keeps_deep, keeps_barred, Same, module_same, class_same}
use Rattle.ruby_grammar.proofs.Beside.{method_same, assign_same, include_same, readers_same, arm_same, else_same}
use Rattle.ruby_grammar.proofs.Beside.{operator_same, operators_same, end_same, text_same, call_same, index_same}
use Rattle.ruby_grammar.proofs.Beside.{choice_same}

-- A choice beside another: the same production or none, where what is too deep, or barred, is kept.
pub data Kin (m : More) (t : Sort) : Choice ruby t → Choice ruby t → Type 0 where
  kin_take : {p q : Prod ruby t} → Same m p q → Kin m t (take p) (take q)
  kin_nothing : Kin m t nothing nothing
  kin_deep : {d : Choice ruby t} → (keeps_deep m ≡ true → d ≡ too_deep) → Kin m t too_deep d
  kin_barred : {d : Choice ruby t} → (keeps_barred m ≡ true → d ≡ barred) → Kin m t barred d

kin_if : (m : More) {t : Sort} (b : Bool) (c d c' d' : Choice ruby t) → Kin m t c c' → Kin m t d d' →
    Kin m t (if b then c else d) (if b then c' else d')
kin_if m true c d c' d' h k = h
kin_if m false c d c' d' h k = k

kin_deepen : {t : Sort} (m : More) (levels : ℕ) (f f' : ℕ → Prod ruby t) →
    ((n : ℕ) → Same m (f n) (f' (levels_with m n))) → Kin m t (deepen levels f) (deepen (levels_with m levels) f')
kin_deepen a_level zero f f' h = kin_deep (λ k. cc)
kin_deepen a_level (suc n) f f' h = kin_take (h n)
kin_deepen settings zero f f' h = kin_deep (λ k. refl)
kin_deepen settings (suc n) f f' h = kin_take (h n)

member_kin : (m : More) (top : Bool) (here : Body) (a : Option Word) →
    Kin m a_def (pick_member top here a) (pick_member top (body_with m here) a)
member_kin m true here a = kin_nothing
member_kin m false here a =
    kin_if m (next_is is_include a) _ _ _ _ (kin_take (include_same m))
    (kin_if m (next_is is_attr_reader a) _ _ _ _ (kin_take (readers_same m here))
    (kin_if m (next_is is_def a) _ _ _ _
    (kin_deepen m here.levels (d.method_from here) (d.method_from (body_with m here)) (method_same m here))
    kin_nothing))

path_kin : (m : More) (more : Bool) (ending : Option Mark) (names : List Name) (a : Option Word) →
    Kin m some_names (pick_path_rest more ending names a) (pick_path_rest more ending names a)
path_kin m true ending names a = kin_if m (next_is is_path a) _ _ _ _
    (kin_take (up_token λ w t. up_token λ v u. up_call λ y. up_give)) (kin_take (end_same m ending names))
path_kin m false ending names a = kin_take (end_same m ending names)

opened_kin : (m : More) (more : Bool) (how : PathOpening) (names : List Name) (a : Option Word) →
    Kin m some_names (pick_opened_path more how names a) (pick_opened_path more how names a)
opened_kin m true how names a = kin_if m (next_is is_path a) _ _ _ _
    (kin_take (up_token λ w t. up_token λ v u. up_call λ y. up_give)) (kin_take (up_mark up_give))
opened_kin m false how names a = kin_take (up_mark up_give)

set_kin : (m : More) (sets : Bool) (here : Around) →
    Kin m a_statement (pick_set_ivar sets here) (pick_set_ivar (flag_with m sets) (around_with m here))
set_kin a_level true here = kin_take (up_token λ w t. up_token λ v u. up_call λ y. up_give)
set_kin a_level false here = kin_barred (λ k. refl)
set_kin settings true here = kin_take (up_token λ w t. up_token λ v u. up_call λ y. up_give)
set_kin settings false here = kin_barred (λ k. cc)

elsif_kin : (m : More) (may_elsif : Bool) (levels : ℕ) (sets : Bool) (arms : List (Expr × List Stmt)) (b : Block)
    (a : Option Word) →
    Kin m a_statement (pick_elsif may_elsif levels sets arms b a)
    (pick_elsif may_elsif (levels_with m levels) (flag_with m sets) arms b a)
elsif_kin m true levels sets arms b a = kin_if m (next_is is_elsif a) _ _ _ _
    (kin_take (up_token λ w t. arm_same m levels sets true (λ x. x) b.names arms)) kin_nothing
elsif_kin m false levels sets arms b a = kin_nothing

branch_kin : (m : More) (closed : Bool) (levels : ℕ) (sets may_elsif : Bool) (arms : List (Expr × List Stmt))
    (b : Block) (a : Option Word) →
    Kin m a_statement (pick_branch closed levels sets may_elsif arms b a)
    (pick_branch closed (levels_with m levels) (flag_with m sets) may_elsif arms b a)
branch_kin m true levels sets may_elsif arms b a = kin_if m (next_is is_else a) _ _ _ _
    (kin_take (else_same m levels sets arms b)) (elsif_kin m may_elsif levels sets arms b a)
branch_kin m false levels sets may_elsif arms b a = kin_nothing

operators_kin : (m : More) (level : Level) (here : Scope) (x : Expr) (a : Option Word) →
    Kin m an_expression (pick_more_operators level here x a) (pick_more_operators level (scope_with m here) x a)
operators_kin m units here x a = kin_take up_give
operators_kin m products here x a = kin_if m (next_is (is_operator products) a) _ _ _ _
    (kin_take (operator_same m products here x)) (kin_take up_give)
operators_kin m sums here x a = kin_if m (next_is (is_operator sums) a) _ _ _ _
    (kin_take (operator_same m sums here x)) (kin_take up_give)
operators_kin m comparisons here x a = kin_if m (next_is (is_operator comparisons) a) _ _ _ _
    (kin_take (operator_same m comparisons here x)) (kin_take up_give)
operators_kin m equalities here x a = kin_if m (next_is (is_operator equalities) a) _ _ _ _
    (kin_take (operator_same m equalities here x)) (kin_take up_give)
operators_kin m conjunctions here x a = kin_if m (next_is (is_operator conjunctions) a) _ _ _ _
    (kin_take (operator_same m conjunctions here x)) (kin_take up_give)
operators_kin m disjunctions here x a = kin_if m (next_is (is_operator disjunctions) a) _ _ _ _
    (kin_take (operator_same m disjunctions here x)) (kin_take up_give)

kin : (m : More) {t : Sort} (rule : Rule t) (a b : Option Word) → Kin m t (pick rule a b) (pick (beside m rule) a b)
kin m (file levels anywhere) a b = kin_if m (next_is is_line a) _ _ _ _
    (kin_take (up_token λ w t. up_call λ ds. up_give)) (kin_take (up_call λ ds. up_give))
kin m (definitions here ds) a b = kin_if m (next_is (starts_definition here.path) a) _ _ _ _
    (kin_take (up_call λ y. up_call λ z. up_give)) (kin_take up_give)
kin m (more_definitions here ds) a b = kin_if m (next_is is_line a) _ _ _ _
    (kin_take (up_token λ w t. up_call λ y. up_give)) (kin_take up_give)
kin m (definition here) a b =
    kin_if m (next_is is_const a) _ _ _ _ (kin_take (assign_same m here))
    (kin_if m (next_is is_module a) _ _ _ _
    (kin_deepen m here.levels (d.module_from here) (d.module_from (body_with m here)) (module_same m here))
    (kin_if m (next_is is_class a) _ _ _ _
    (kin_deepen m here.levels (d.class_from here) (d.class_from (body_with m here)) (class_same m here))
    (member_kin m (d.at_top here.path) here a)))
kin m (path_rest more ending names) a b = path_kin m more ending names a
kin m (opened_path more how names) a b = opened_kin m more how names a
kin m (parent path at) a b = kin_if m (next_is is_less a) _ _ _ _
    (kin_take (up_token λ w t. up_call λ c. up_token λ v u. up_give))
    (kin_if m (next_is is_line a) _ _ _ _ (kin_take (up_token λ w t. up_give)) kin_nothing)
kin m (constant ending) a b = kin_if m (next_is is_path a) _ _ _ _
    (kin_take (up_token λ w t. up_token λ v u. up_call λ y. up_give))
    (kin_if m (next_is is_const a) _ _ _ _ (kin_take (up_token λ w t. up_call λ y. up_give)) kin_nothing)
kin m (heading path) a b = kin_if m (next_is is_self a) _ _ _ _
    (kin_take (up_token λ w t. up_token λ v u. up_token λ v u. up_mark up_give))
    (kin_if m (next_is is_name a) _ _ _ _ (kin_take (up_token λ w t. up_mark up_give)) kin_nothing)
kin m (parameter_list levels) a b =
    kin_if m (next_is is_line a) _ _ _ _ (kin_take (up_token λ w t. up_give))
    (kin_if m (next_is is_open_paren a) _ _ _ _
    (kin_deepen m levels d.parameters_from d.parameters_from
    (λ k. up_token λ w t. up_call λ y. up_token λ v u. up_token λ v u. up_give)) kin_nothing)
kin m parameters a b = kin_if m (next_is is_variable a) _ _ _ _ (kin_take (up_token λ w t. up_call λ y. up_give))
    (kin_take up_give)
kin m (more_parameters names) a b = kin_if m (next_is is_comma a) _ _ _ _
    (kin_take (up_token λ w t. up_token λ v u. up_call λ y. up_give)) (kin_take up_give)
kin m (more_readers path names) a b = kin_if m (next_is is_comma a) _ _ _ _
    (kin_take (up_token λ w t. up_token λ v u. up_mark (up_call λ y. up_give))) (kin_take up_give)
kin m (statements here ss) a b = kin_if m (next_is starts_statement a) _ _ _ _
    (kin_take (up_call λ y. up_call λ z. up_give)) (kin_take up_give)
kin m (more_statements here ss) a b = kin_if m (next_is is_line a) _ _ _ _
    (kin_take (up_token λ w t. up_call λ y. up_give)) (kin_take up_give)
kin m (statement here) a b =
    kin_if m (next_is is_if a) _ _ _ _
    (kin_deepen m here.levels (s.if_from here) (s.if_from (around_with m here))
    (λ n. up_token λ w t. arm_same m n here.sets true (λ x. x) here.names []))
    (kin_if m (next_is is_unless a) _ _ _ _
    (kin_deepen m here.levels (s.unless_from here) (s.unless_from (around_with m here))
    (λ n. up_token λ w t. arm_same m n here.sets false (λ x. expr.Not x) here.names []))
    (kin_take (up_call λ y. up_call λ z. up_give)))
kin m (simple_statement here) a b =
    kin_if m (next_is is_return a) _ _ _ _ (kin_take (up_token λ w t. up_call λ y. up_give))
    (kin_if m (next_is is_raise a) _ _ _ _ (kin_take (up_token λ w t. up_call λ y. up_give))
    (kin_if m (next_is is_variable a && next_is is_assign b) _ _ _ _
    (kin_take (up_token λ w t. up_token λ v u. up_call λ y. up_give))
    (kin_if m (next_is is_ivar a && next_is is_assign b) _ _ _ _ (set_kin m here.sets here)
    (kin_take (up_call λ y. up_give)))))
kin m (condition_behind levels t) a b = kin_if m (next_is is_if a) _ _ _ _
    (kin_take (up_token λ w u. up_call λ y. up_give))
    (kin_if m (next_is is_unless a) _ _ _ _ (kin_take (up_token λ w u. up_call λ y. up_give)) (kin_take up_give))
kin m then_or_line a b = kin_if m (next_is is_then a) _ _ _ _ (kin_take (up_token λ w t. up_call λ y. up_give))
    (kin_if m (next_is is_line a) _ _ _ _ (kin_take (up_token λ w t. up_give)) kin_nothing)
kin m perhaps_line a b = kin_if m (next_is is_line a) _ _ _ _ (kin_take (up_token λ w t. up_give)) (kin_take up_give)
kin m (arms_rest levels sets may_elsif arms c) a b = kin_if m (next_is is_end a) _ _ _ _
    (kin_take (up_token λ w t. up_give)) (branch_kin m c.closed levels sets may_elsif arms c a)
kin m (perhaps_expression here) a b = kin_if m (next_is starts_expression a) _ _ _ _
    (kin_take (up_call λ y. up_give)) (kin_take up_give)
kin m (expression here) a b = kin_take (up_call λ y. up_call λ z. up_give)
kin m (choice_rest here x) a b = kin_if m (next_is is_ask a) _ _ _ _ (kin_take (choice_same m here x))
    (kin_take up_give)
kin m (operators level here) a b = kin_take (operators_same m level here)
kin m (more_operators level here x) a b = operators_kin m level here x a
kin m (unary here) a b =
    kin_if m (next_is is_not a) _ _ _ _
    (kin_deepen m here.levels (e.not_from here) (e.not_from (scope_with m here))
    (λ n. up_token λ w t. up_call λ y. up_give))
    (kin_if m (next_is is_minus a) _ _ _ _
    (kin_deepen m here.levels (e.minus_from here) (e.minus_from (scope_with m here))
    (λ n. up_token λ w t. up_call λ y. up_give))
    (kin_take (up_call λ y. up_give)))
kin m (postfix here) a b = kin_take (up_call λ y. up_call λ z. up_give)
kin m (more_postfix here x) a b =
    kin_if m (next_is is_dot a) _ _ _ _ (kin_take (call_same m here x))
    (kin_if m (next_is is_tight_bracket a) _ _ _ _
    (kin_deepen m here.levels (e.index_from here x) (e.index_from (scope_with m here) x) (index_same m here x))
    (kin_take up_give))
kin m (primary here) a b =
    kin_if m (next_is is_int a) _ _ _ _ (kin_take (up_token λ w t. up_give))
    (kin_if m (next_is is_text_open a) _ _ _ _ (kin_take (text_same m here))
    (kin_if m (next_is is_sym a) _ _ _ _ (kin_take (up_token λ w t. up_give))
    (kin_if m (next_is is_nil a) _ _ _ _ (kin_take (up_token λ w t. up_give))
    (kin_if m (next_is is_true a) _ _ _ _ (kin_take (up_token λ w t. up_give))
    (kin_if m (next_is is_false a) _ _ _ _ (kin_take (up_token λ w t. up_give))
    (kin_if m (next_is is_self a) _ _ _ _ (kin_take (up_token λ w t. up_give))
    (kin_if m (next_is is_name a) _ _ _ _ (kin_take (up_token λ w t. up_call λ y. up_give))
    (kin_if m (next_is is_ivar a) _ _ _ _ (kin_take (up_token λ w t. up_give))
    (kin_if m (next_is is_path a || next_is is_const a) _ _ _ _ (kin_take (up_call λ y. up_give))
    (kin_if m (next_is is_open_bracket a) _ _ _ _
    (kin_deepen m here.levels (e.array_from here) (e.array_from (scope_with m here))
    (λ n. up_token λ w t. up_call λ y. up_token λ v u. up_give))
    (kin_if m (next_is is_open_brace a) _ _ _ _
    (kin_deepen m here.levels (e.hash_from here) (e.hash_from (scope_with m here))
    (λ n. up_token λ w t. up_call λ y. up_token λ v u. up_give))
    (kin_if m (next_is is_open_paren a) _ _ _ _
    (kin_deepen m here.levels (e.group_from here) (e.group_from (scope_with m here))
    (λ n. up_token λ w t. up_call λ y. up_token λ v u. up_give))
    kin_nothing))))))))))))
kin m (name_rest here name) a b = kin_if m (next_is is_tight_paren a) _ _ _ _
    (kin_deepen m here.levels (e.call_from here name) (e.call_from (scope_with m here) name)
    (λ n. up_token λ w t. up_call λ y. up_token λ v u. up_give)) (kin_take up_give)
kin m (perhaps_arguments here) a b = kin_if m (next_is is_tight_paren a) _ _ _ _
    (kin_deepen m here.levels (e.arguments_from here) (e.arguments_from (scope_with m here))
    (λ n. up_token λ w t. up_call λ y. up_token λ v u. up_give)) (kin_take up_give)
kin m (members here xs) a b = kin_if m (next_is starts_expression a) _ _ _ _
    (kin_take (up_call λ y. up_call λ z. up_give)) (kin_take up_give)
kin m (more_members here xs) a b = kin_if m (next_is is_comma a) _ _ _ _
    (kin_take (up_token λ w t. up_call λ y. up_give)) (kin_take up_give)
kin m (pairs here ps) a b = kin_if m (next_is starts_pair a) _ _ _ _ (kin_take (up_call λ y. up_call λ z. up_give))
    (kin_take up_give)
kin m (more_pairs here ps) a b = kin_if m (next_is is_comma a) _ _ _ _
    (kin_take (up_token λ w t. up_call λ y. up_give)) (kin_take up_give)
kin m (pair here) a b = kin_if m (next_is is_label a) _ _ _ _ (kin_take (up_token λ w t. up_call λ y. up_give))
    (kin_take (up_call λ y. up_token λ w t. up_call λ z. up_give))
kin m (text_parts here double parts) a b =
    kin_if m (next_is is_text_piece a) _ _ _ _ (kin_take (up_token λ w t. up_call λ y. up_give))
    (kin_if m (next_is is_inside_open a) _ _ _ _
    (kin_deepen m here.levels (e.inside_from here double parts) (e.inside_from (scope_with m here) double parts)
    (λ n. up_token λ w t. up_call λ y. up_token λ v u. up_call λ z. up_give))
    (kin_take up_give))

-- ---- so what is chosen, and why nothing is, is kept

taken : (m : More) {t : Sort} (c d : Choice ruby t) (p : Prod ruby t) → Kin m t c d → c ≡ take p → (q : Prod ruby t)
    × (d ≡ take q) × Same m p q
taken m c d p (kin_take {p = p'} {q = q} u) e = (q, refl, subst (λ z. Same m z q) (take_is (take p') refl e) u)
taken m c d p kin_nothing e = cc
taken m c d p (kin_deep h) e = cc
taken m c d p (kin_barred h) e = cc

no_choice : (m : More) {t : Sort} (c d : Choice ruby t) → Kin m t c d → c ≡ nothing → d ≡ nothing
no_choice m c d (kin_take u) e = cc
no_choice m c d kin_nothing e = refl
no_choice m c d (kin_deep h) e = cc
no_choice m c d (kin_barred h) e = cc

deep_choice : (m : More) {t : Sort} (c d : Choice ruby t) → Kin m t c d → c ≡ too_deep → keeps_deep m ≡ true →
    d ≡ too_deep
deep_choice m c d (kin_take u) e k = cc
deep_choice m c d kin_nothing e k = cc
deep_choice m c d (kin_deep h) e k = h k
deep_choice m c d (kin_barred h) e k = cc

barred_choice : (m : More) {t : Sort} (c d : Choice ruby t) → Kin m t c d → c ≡ barred → keeps_barred m ≡ true →
    d ≡ barred
barred_choice m c d (kin_take u) e k = cc
barred_choice m c d kin_nothing e k = cc
barred_choice m c d (kin_deep h) e k = cc
barred_choice m c d (kin_barred h) e k = h k

-- the law `takes`: where a rule chooses an alternative, the rule beside chooses the same one
pub takes : (m : More) {t : Sort} (rule : Rule t) (a b : Option Word) (p : Prod ruby t) → pick rule a b ≡ take p →
    (q : Prod ruby t) × (pick (beside m rule) a b ≡ take q) × Same m p q
takes m rule a b p h = taken m (pick rule a b) (pick (beside m rule) a b) p (kin m rule a b) h

-- the law `nothing_beside`: a word with which nothing begins begins nothing of the rule beside either
pub nothing_beside : (m : More) {t : Sort} (rule : Rule t) (a b : Option Word) → pick rule a b ≡ nothing →
    pick (beside m rule) a b ≡ nothing
nothing_beside m rule a b h = no_choice m (pick rule a b) (pick (beside m rule) a b) (kin m rule a b) h

-- the law `depth_beside`: settings alone leave too deep what is too deep
pub depth_beside : (m : More) {t : Sort} (rule : Rule t) (a b : Option Word) → pick rule a b ≡ too_deep →
    keeps_deep m ≡ true → pick (beside m rule) a b ≡ too_deep
depth_beside m rule a b h k = deep_choice m (pick rule a b) (pick (beside m rule) a b) (kin m rule a b) h k

-- the law `bar_beside`: a level more alone leaves barred what is barred
pub bar_beside : (m : More) {t : Sort} (rule : Rule t) (a b : Option Word) → pick rule a b ≡ barred →
    keeps_barred m ≡ true → pick (beside m rule) a b ≡ barred
bar_beside m rule a b h k = barred_choice m (pick rule a b) (pick (beside m rule) a b) (kin m rule a b) h k
