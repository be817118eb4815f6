-- What is too deep begins a sentence where one level more is left, and what is barred where `@x =` may stand.
use Rattle.std.proofs.Common.{◌≡◌, ℕ, zero, suc, Bool, true, false, ◌||◌, ◌&&◌, List, ◌∷◌, ◌++◌, Option, Some, None}
use Rattle.std.proofs.Common.{refl, sym, subst, if◌then◌else◌}
use Rattle.ruby_types.specs.declared.tree.Expr.{Expr}
use Rattle.ruby_types.specs.declared.tree.Stmt.{Stmt}
use Rattle.ruby_types.specs.declared.tree.Stmt.TheVariants as stmt
use Rattle.ruby_grammar.specs.Values.{behind_sign}
use Rattle.descent.specs.Grammar.{Prod, Among, first, later, Item, word, Is, is_word, give, token, call, only}
use Rattle.descent.specs.Reading.{Choice, take, too_deep, barred, nothing}
use Rattle.ruby_grammar.specs.Words.{Word}
use Rattle.ruby_grammar.specs.Marks.{Mark}
use Rattle.ruby_grammar.specs.Terminals.{Level, units, products, sums, comparisons, equalities, conjunctions}
use Rattle.ruby_grammar.specs.Terminals.{disjunctions}
use Rattle.ruby_grammar.specs.Terminals.{is_operator, is_not, is_minus, is_dot, is_path, is_const, is_comma, is_int}
use Rattle.ruby_grammar.specs.Terminals.{is_text_open, is_text_piece, is_inside_open, is_sym, is_label, is_ivar, is_nil}
use Rattle.ruby_grammar.specs.Terminals.{is_true, is_false, is_self, is_name, is_open_paren, is_open_bracket}
use Rattle.ruby_grammar.specs.Terminals.{is_open_brace}
use Rattle.ruby_grammar.specs.Terminals.{is_tight_paren, is_tight_bracket, is_ask, is_line, is_less, is_module}
use Rattle.ruby_grammar.specs.Terminals.{is_class}
use Rattle.ruby_grammar.specs.Terminals.{is_def, is_include, is_attr_reader, is_variable, is_assign, is_return}
use Rattle.ruby_grammar.specs.Terminals.{is_raise}
use Rattle.ruby_grammar.specs.Terminals.{is_if, is_unless, is_elsif, is_else, is_end, is_then}
use Rattle.ruby_grammar.specs.Rules.{ruby, Sort, Rule, Name, Body, Around, Scope, Block, a_statement, an_expression}
use Rattle.ruby_grammar.specs.Rules.{file, definitions, more_definitions, definition, path_rest, parent, constant}
use Rattle.ruby_grammar.specs.Rules.{PathOpening, opened_path}
use Rattle.ruby_grammar.specs.Rules.{heading, parameter_list, parameters, more_parameters, more_readers, statements}
use Rattle.ruby_grammar.specs.Rules.{more_statements, statement, simple_statement, condition_behind, then_or_line}
use Rattle.ruby_grammar.specs.Rules.{perhaps_line, arms_rest, perhaps_expression, expression, choice_rest, operators}
use Rattle.ruby_grammar.specs.Rules.{more_operators, unary, postfix, more_postfix, primary, name_rest}
use Rattle.ruby_grammar.specs.Rules.{perhaps_arguments, members, more_members, pairs, more_pairs, pair, text_parts}
use Rattle.ruby_grammar.specs.Language.{forms, ruby_grammar}
use Rattle.ruby_grammar.specs.Expressions as e
use Rattle.ruby_grammar.specs.Statements as s
use Rattle.ruby_grammar.specs.Definitions as d
use Rattle.descent.specs.Lawful.{BeginsWith}
use Rattle.descent.proofs.Complete.{alone, has_end}
use Rattle.ruby_grammar.specs.Rules.{Val}
use Rattle.ruby_grammar.specs.Choices.{pick_opened_path}
use Rattle.ruby_grammar.specs.Choices.{next_is, pick, deepen, ruby_choices, starts_expression, starts_statement}
use Rattle.ruby_grammar.specs.Choices.{starts_pair, starts_definition, pick_member, pick_path_rest, pick_set_ivar}
use Rattle.ruby_grammar.specs.Choices.{pick_elsif, pick_branch, pick_more_operators}
use Rattle.ruby_grammar.specs.Follow.{ruby_follow}
use Rattle.ruby_grammar.proofs.Tools.{and_true}
use Rattle.ruby_grammar.proofs.Chosen.{barred_is}
use Rattle.ruby_grammar.proofs.Barring.{bar_of}
use Rattle.ruby_grammar.proofs.Law.{lawful}
use Rattle.ruby_grammar.proofs.Beside.{More, a_level, settings, body_with, around_with, scope_with, beside, keeps_deep}
use Rattle.ruby_grammar.proofs.Beside.{keeps_barred}

begins : {t : Sort} (rule : Rule t) (test : Word → Bool) (next : Word → Prod ruby t) →
    Among (token test next) (forms rule) → (w : Word) → test w ≡ true → BeginsWith ruby_grammar rule w
begins rule test next am w h =
    let e = has_end ruby_grammar ruby_choices ruby_follow lawful (next w)
    ((lawful.goes rule (token test next) am).1 w h) in
    (e.0, e.1, alone ruby_grammar am (is_word h e.2))

-- where the choice is too deep, the next word begins a sentence of the rule
abbrev Opened : {t : Sort} → Rule t → Option Word → Choice ruby t → Type 0
Opened rule a (take p) = Unit {0}
Opened rule a too_deep = (w : Word) × (a ≡ Some w) × BeginsWith ruby_grammar rule w
Opened rule a barred = Unit {0}
Opened rule a nothing = Unit {0}

op_if : {t : Sort} (rule : Rule t) (a : Option Word) (b : Bool) (c d : Choice ruby t) → Opened rule a c →
    Opened rule a d → Opened rule a (if b then c else d)
op_if rule a true c d h k = h
op_if rule a false c d h k = k

by_test : {t : Sort} (rule : Rule t) (w : Word) (b : Bool) (levels : ℕ) (f : ℕ → Prod ruby t) (d : Choice ruby t) →
    (b ≡ true → BeginsWith ruby_grammar rule w) → Opened rule (Some w) d →
    Opened rule (Some w) (if b then deepen levels f else d)
by_test rule w true zero f d h k = (w, refl, h refl)
by_test rule w true (suc n) f d h k = tt
by_test rule w false levels f d h k = k

op_deepen : {t : Sort} (rule : Rule t) (a : Option Word) (test : Word → Bool) (levels : ℕ) (f : ℕ → Prod ruby t)
    (d : Choice ruby t) → ((w : Word) → test w ≡ true → BeginsWith ruby_grammar rule w) →
    Opened rule a d → Opened rule a (if next_is test a then deepen levels f else d)
op_deepen rule None test levels f d h k = k
op_deepen rule (Some w) test levels f d h k = by_test rule w (test w) levels f d (λ e. h w e) k

member_opened : (top : Bool) (here : Body) (a : Option Word) → d.at_top here.path ≡ top →
    Opened (definition (body_with a_level here)) a (pick_member top here a)
member_opened true here a e = tt
member_opened false here a e =
    let r = definition (body_with a_level here) in
    op_if r a (next_is is_include a) _ _ tt
    (op_if r a (next_is is_attr_reader a) _ _ tt
    (op_deepen r a is_def here.levels (d.method_from here) nothing
    (begins r is_def _ (subst
    (λ b. Among (d.method_from (body_with a_level here) here.levels)
    (d.top_forms (body_with a_level here) ++ d.member_forms b (body_with a_level here))) (sym e)
    (later (later (later (later (later first))))))) tt))

path_opened : (more : Bool) (ending : Option Mark) (names : List Name) (a : Option Word) →
    Opened (path_rest more ending names) a (pick_path_rest more ending names a)
path_opened true None names a = op_if (path_rest true None names) a (next_is is_path a) _ _ tt tt
path_opened true (Some m) names a = op_if (path_rest true (Some m) names) a (next_is is_path a) _ _ tt tt
path_opened false None names a = tt
path_opened false (Some m) names a = tt

opened_opened : (more : Bool) (how : PathOpening) (names : List Name) (a : Option Word) →
    Opened (opened_path more how names) a (pick_opened_path more how names a)
opened_opened true how names a = op_if (opened_path true how names) a (next_is is_path a) _ _ tt tt
opened_opened false how names a = tt

set_opened : (sets : Bool) (here : Around) (a : Option Word) (r : Rule a_statement) →
    Opened r a (pick_set_ivar sets here)
set_opened true here a r = tt
set_opened false here a r = tt

elsif_opened : (may_elsif : Bool) (levels : ℕ) (sets : Bool) (arms : List (Expr × List Stmt)) (b : Block)
    (a : Option Word) (r : Rule a_statement) → Opened r a (pick_elsif may_elsif levels sets arms b a)
elsif_opened true levels sets arms b a r = op_if r a (next_is is_elsif a) _ _ tt tt
elsif_opened false levels sets arms b a r = tt

branch_opened : (closed : Bool) (levels : ℕ) (sets may_elsif : Bool) (arms : List (Expr × List Stmt)) (b : Block)
    (a : Option Word) (r : Rule a_statement) → Opened r a (pick_branch closed levels sets may_elsif arms b a)
branch_opened true levels sets may_elsif arms b a r = op_if r a (next_is is_else a) _ _ tt
    (elsif_opened may_elsif levels sets arms b a r)
branch_opened false levels sets may_elsif arms b a r = tt

operators_opened : (level : Level) (here : Scope) (x : Expr) (a : Option Word) (r : Rule an_expression) →
    Opened r a (pick_more_operators level here x a)
operators_opened units here x a r = tt
operators_opened products here x a r = op_if r a (next_is (is_operator products) a) _ _ tt tt
operators_opened sums here x a r = op_if r a (next_is (is_operator sums) a) _ _ tt tt
operators_opened comparisons here x a r = op_if r a (next_is (is_operator comparisons) a) _ _ tt tt
operators_opened equalities here x a r = op_if r a (next_is (is_operator equalities) a) _ _ tt tt
operators_opened conjunctions here x a r = op_if r a (next_is (is_operator conjunctions) a) _ _ tt tt
operators_opened disjunctions here x a r = op_if r a (next_is (is_operator disjunctions) a) _ _ tt tt

opened : {t : Sort} (rule : Rule t) (a b : Option Word) → Opened (beside a_level rule) a (pick rule a b)
opened (file levels anywhere) a b = op_if (beside a_level (file levels anywhere)) a (next_is is_line a) _ _ tt tt
opened (definitions here ds) a b = op_if (beside a_level (definitions here ds)) a
    (next_is (starts_definition here.path) a) _ _ tt tt
opened (more_definitions here ds) a b = op_if (beside a_level (more_definitions here ds)) a
    (next_is is_line a) _ _ tt tt
opened parameters a b = op_if (beside a_level (parameters)) a (next_is is_variable a) _ _ tt tt
opened (more_parameters names) a b = op_if (beside a_level (more_parameters names)) a (next_is is_comma a) _ _ tt tt
opened (more_readers path names) a b = op_if (beside a_level (more_readers path names)) a (next_is is_comma a) _ _ tt tt
opened (statements here ss) a b = op_if (beside a_level (statements here ss)) a (next_is starts_statement a) _ _ tt tt
opened (more_statements here ss) a b = op_if (beside a_level (more_statements here ss)) a (next_is is_line a) _ _ tt tt
opened perhaps_line a b = op_if (beside a_level (perhaps_line)) a (next_is is_line a) _ _ tt tt
opened (perhaps_expression here) a b = op_if (beside a_level (perhaps_expression here)) a
    (next_is starts_expression a) _ _ tt tt
opened (choice_rest here x) a b = op_if (beside a_level (choice_rest here x)) a (next_is is_ask a) _ _ tt tt
opened (members here xs) a b = op_if (beside a_level (members here xs)) a (next_is starts_expression a) _ _ tt tt
opened (more_members here xs) a b = op_if (beside a_level (more_members here xs)) a (next_is is_comma a) _ _ tt tt
opened (pairs here ps) a b = op_if (beside a_level (pairs here ps)) a (next_is starts_pair a) _ _ tt tt
opened (more_pairs here ps) a b = op_if (beside a_level (more_pairs here ps)) a (next_is is_comma a) _ _ tt tt
opened (pair here) a b = op_if (beside a_level (pair here)) a (next_is is_label a) _ _ tt tt
opened (parent path at) a b = op_if (beside a_level (parent path at)) a (next_is is_less a) _ _ tt
    (op_if (beside a_level (parent path at)) a (next_is is_line a) _ _ tt tt)
opened (constant ending) a b = op_if (beside a_level (constant ending)) a (next_is is_path a) _ _ tt
    (op_if (beside a_level (constant ending)) a (next_is is_const a) _ _ tt tt)
opened (heading path) a b = op_if (beside a_level (heading path)) a (next_is is_self a) _ _ tt
    (op_if (beside a_level (heading path)) a (next_is is_name a) _ _ tt tt)
opened (condition_behind levels t) a b = op_if (beside a_level (condition_behind levels t)) a
    (next_is is_if a) _ _ tt (op_if (beside a_level (condition_behind levels t)) a (next_is is_unless a) _ _ tt tt)
opened then_or_line a b = op_if (beside a_level (then_or_line)) a (next_is is_then a) _ _ tt
    (op_if (beside a_level (then_or_line)) a (next_is is_line a) _ _ tt tt)
opened (path_rest more ending names) a b = path_opened more ending names a
opened (opened_path more how names) a b = opened_opened more how names a
opened (arms_rest levels sets may_elsif arms c) a b =
    op_if (beside a_level (arms_rest levels sets may_elsif arms c)) a (next_is is_end a) _ _ tt
    (branch_opened c.closed levels sets may_elsif arms c a _)
opened (expression here) a b = tt
opened (operators level here) a b = tt
opened (more_operators level here x) a b = operators_opened level here x a _
opened (postfix here) a b = tt
opened (definition here) a b =
    let r = definition (body_with a_level here) in
    op_if r a (next_is is_const a) _ _ tt
    (op_deepen r a is_module here.levels (d.module_from here) _ (begins r is_module _ (later first))
    (op_deepen r a is_class here.levels (d.class_from here) _ (begins r is_class _ (later (later first)))
    (member_opened (d.at_top here.path) here a refl)))
opened (parameter_list levels) a b =
    let r = parameter_list (suc levels) in
    op_if r a (next_is is_line a) _ _ tt
    (op_deepen r a is_open_paren levels d.parameters_from _ (begins r is_open_paren _ (later first)) tt)
opened (statement here) a b =
    let r = statement (around_with a_level here) in
    op_deepen r a is_if here.levels (s.if_from here) _ (begins r is_if _ (later first))
    (op_deepen r a is_unless here.levels (s.unless_from here) _ (begins r is_unless _ (later (later first))) tt)
opened (simple_statement here) a b =
    let r = simple_statement (around_with a_level here) in
    op_if r a (next_is is_return a) _ _ tt
    (op_if r a (next_is is_raise a) _ _ tt
    (op_if r a (next_is is_variable a && next_is is_assign b) _ _ tt
    (op_if r a (next_is is_ivar a && next_is is_assign b) _ _ (set_opened here.sets here a r) tt)))
opened (unary here) a b =
    let r = unary (scope_with a_level here) in
    op_deepen r a is_not here.levels (e.not_from here) _ (begins r is_not _ first)
    (op_deepen r a is_minus here.levels (e.minus_from here) _ (begins r is_minus _ (later first)) tt)
opened (more_postfix here x) a b =
    let r = more_postfix (scope_with a_level here) x in
    op_if r a (next_is is_dot a) _ _ tt
    (op_deepen r a is_tight_bracket here.levels (e.index_from here x) _
    (begins r is_tight_bracket _ (later first)) tt)
opened (primary here) a b =
    let r = primary (scope_with a_level here) in
    op_if r a (next_is is_int a) _ _ tt
    (op_if r a (next_is is_text_open a) _ _ tt
    (op_if r a (next_is is_sym a) _ _ tt
    (op_if r a (next_is is_nil a) _ _ tt
    (op_if r a (next_is is_true a) _ _ tt
    (op_if r a (next_is is_false a) _ _ tt
    (op_if r a (next_is is_self a) _ _ tt
    (op_if r a (next_is is_name a) _ _ tt
    (op_if r a (next_is is_ivar a) _ _ tt
    (op_if r a (next_is is_path a || next_is is_const a) _ _ tt
    (op_deepen r a is_open_bracket here.levels (e.array_from here) _ (begins r is_open_bracket _ (ten first))
    (op_deepen r a is_open_brace here.levels (e.hash_from here) _ (begins r is_open_brace _ (ten (later first)))
    (op_deepen r a is_open_paren here.levels (e.group_from here) _
    (begins r is_open_paren _ (ten (later (later first)))) tt))))))))))))
  where
    ten : {A : Type 0} {p a b c d e f g h i j : A} {ps : List A} → Among p ps →
        Among p (a ∷ b ∷ c ∷ d ∷ e ∷ f ∷ g ∷ h ∷ i ∷ j ∷ ps)
    ten am = later (later (later (later (later (later (later (later (later (later am)))))))))
opened (name_rest here name) a b = op_deepen (name_rest (scope_with a_level here) name) a is_tight_paren here.levels
    (e.call_from here name) _ (begins (name_rest (scope_with a_level here) name) is_tight_paren _ first) tt
opened (perhaps_arguments here) a b = op_deepen (perhaps_arguments (scope_with a_level here)) a is_tight_paren
    here.levels (e.arguments_from here) _
    (begins (perhaps_arguments (scope_with a_level here)) is_tight_paren _ first) tt
opened (text_parts here double parts) a b =
    let r = text_parts (scope_with a_level here) double parts in
    op_if r a (next_is is_text_piece a) _ _ tt
    (op_deepen r a is_inside_open here.levels (e.inside_from here double parts) _
    (begins r is_inside_open _ (later first)) tt)

-- the law `opens`: a word refused as too deep begins a sentence where one level more is left
pub opens : (m : More) {t : Sort} (rule : Rule t) (a b : Option Word) → pick rule a b ≡ too_deep →
    keeps_deep m ≡ false → (w : Word) × (a ≡ Some w) × BeginsWith ruby_grammar (beside m rule) w
opens a_level rule a b h k = subst (λ c. Opened (beside a_level rule) a c) h (opened rule a b)
opens settings rule a b h k = cc

-- ---- what is barred

abbrev Sets : {t : Sort} → Rule t → Option Word → Option Word → Type 0
Sets {t} rule a b = (w v : Word) × (a ≡ Some w) × (b ≡ Some v) × (more : List (Item ruby)) × (x : Val t)
    × Is ruby_grammar t (only rule) (word w ∷ word v ∷ more) x

sets : (here : Around) (w v : Word) → is_ivar w ≡ true → is_assign v ≡ true →
    Sets (simple_statement (around_with settings here)) (Some w) (Some v)
sets here w v h k =
    let there = around_with settings here in
    let e = has_end ruby_grammar ruby_choices ruby_follow lawful
    (call (expression (s.scope_of there)) λ x. give (s.known (stmt.SetIvar (behind_sign w.text) x) there.names))
    (λ y. tt) in
    (w, v, refl, refl, e.0, e.1, alone ruby_grammar (later (later (later first))) (is_word h (is_word k e.2)))

simple_sets : (here : Around) (a b : Option Word) → pick (simple_statement here) a b ≡ barred →
    Sets (simple_statement (around_with settings here)) a b
simple_sets here None b h = cc
simple_sets here (Some w) None h =
    absurd (no_next w (and_true (is_ivar w) false
    (bar_of (is_return w) (is_raise w) (is_variable w && false) (is_ivar w && false) here h)))
  where
    no_next : (w : Word) → (is_ivar w ≡ true) × (false ≡ true) → ⊥
    no_next w h = cc
simple_sets here (Some w) (Some v) h =
    let i = and_true (is_ivar w) (is_assign v)
    (bar_of (is_return w) (is_raise w) (is_variable w && is_assign v) (is_ivar w && is_assign v) here h) in
    sets here w v i.0 i.1

unbarred : {t : Sort} (rule : Rule t) (a b : Option Word) → pick rule a b ≡ barred → Sets (beside settings rule) a b
unbarred (simple_statement here) a b h = simple_sets here a b h
unbarred (file levels anywhere) a b h = absurd (barred_is (file levels anywhere) a b h)
unbarred (definitions here ds) a b h = absurd (barred_is (definitions here ds) a b h)
unbarred (more_definitions here ds) a b h = absurd (barred_is (more_definitions here ds) a b h)
unbarred (definition here) a b h = absurd (barred_is (definition here) a b h)
unbarred (path_rest more ending names) a b h = absurd (barred_is (path_rest more ending names) a b h)
unbarred (opened_path more how names) a b h = absurd (barred_is (opened_path more how names) a b h)
unbarred (parent path at) a b h = absurd (barred_is (parent path at) a b h)
unbarred (constant ending) a b h = absurd (barred_is (constant ending) a b h)
unbarred (heading path) a b h = absurd (barred_is (heading path) a b h)
unbarred (parameter_list levels) a b h = absurd (barred_is (parameter_list levels) a b h)
unbarred parameters a b h = absurd (barred_is parameters a b h)
unbarred (more_parameters names) a b h = absurd (barred_is (more_parameters names) a b h)
unbarred (more_readers path names) a b h = absurd (barred_is (more_readers path names) a b h)
unbarred (statements here ss) a b h = absurd (barred_is (statements here ss) a b h)
unbarred (more_statements here ss) a b h = absurd (barred_is (more_statements here ss) a b h)
unbarred (statement here) a b h = absurd (barred_is (statement here) a b h)
unbarred (condition_behind levels t) a b h = absurd (barred_is (condition_behind levels t) a b h)
unbarred then_or_line a b h = absurd (barred_is then_or_line a b h)
unbarred perhaps_line a b h = absurd (barred_is perhaps_line a b h)
unbarred (arms_rest levels sets may_elsif arms c) a b h =
    absurd (barred_is (arms_rest levels sets may_elsif arms c) a b h)
unbarred (perhaps_expression here) a b h = absurd (barred_is (perhaps_expression here) a b h)
unbarred (expression here) a b h = absurd (barred_is (expression here) a b h)
unbarred (choice_rest here x) a b h = absurd (barred_is (choice_rest here x) a b h)
unbarred (operators level here) a b h = absurd (barred_is (operators level here) a b h)
unbarred (more_operators level here x) a b h = absurd (barred_is (more_operators level here x) a b h)
unbarred (unary here) a b h = absurd (barred_is (unary here) a b h)
unbarred (postfix here) a b h = absurd (barred_is (postfix here) a b h)
unbarred (more_postfix here x) a b h = absurd (barred_is (more_postfix here x) a b h)
unbarred (primary here) a b h = absurd (barred_is (primary here) a b h)
unbarred (name_rest here name) a b h = absurd (barred_is (name_rest here name) a b h)
unbarred (perhaps_arguments here) a b h = absurd (barred_is (perhaps_arguments here) a b h)
unbarred (members here xs) a b h = absurd (barred_is (members here xs) a b h)
unbarred (more_members here xs) a b h = absurd (barred_is (more_members here xs) a b h)
unbarred (pairs here ps) a b h = absurd (barred_is (pairs here ps) a b h)
unbarred (more_pairs here ps) a b h = absurd (barred_is (more_pairs here ps) a b h)
unbarred (pair here) a b h = absurd (barred_is (pair here) a b h)
unbarred (text_parts here double parts) a b h = absurd (barred_is (text_parts here double parts) a b h)

-- the law `unbars`: `@x =`, where it is barred, begins a statement where it may stand in any method
pub unbars : (m : More) {t : Sort} (rule : Rule t) (a b : Option Word) → pick rule a b ≡ barred →
    keeps_barred m ≡ false →
    (w v : Word) × (a ≡ Some w) × (b ≡ Some v) × (more : List (Item ruby)) × (x : Val t)
    × Is ruby_grammar t (only (beside m rule)) (word w ∷ word v ∷ more) x
unbars a_level rule a b h k = cc
unbars settings rule a b h k = unbarred rule a b h
