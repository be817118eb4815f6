-- What is chosen is an alternative.
use Rattle.std.proofs.Common.{◌≡◌, ℕ, Bool, true, false, ◌||◌, ◌&&◌, List, [], ◌∷◌, ◌++◌, Option, None, subst}
use Rattle.ruby_types.specs.declared.tree.Expr.{Expr}
use Rattle.ruby_types.specs.declared.tree.Stmt.{Stmt}
use Rattle.descent.specs.Grammar.{Prod, Among, first, later}
use Rattle.descent.specs.Reading.{Choice, take, too_deep, barred, nothing}
use Rattle.ruby_grammar.specs.Words.{Word}
use Rattle.ruby_grammar.specs.Marks.{Mark}
use Rattle.ruby_grammar.specs.Terminals.{Level, units, products, sums, comparisons, equalities, conjunctions}
use Rattle.ruby_grammar.specs.Terminals.{disjunctions}
use Rattle.ruby_grammar.specs.Terminals.{is_operator, is_not, is_minus, is_dot, is_path, is_const, is_comma, is_int}
use Rattle.ruby_grammar.specs.Terminals.{is_text_open, is_text_piece, is_inside_open, is_sym, is_label, is_ivar, is_nil}
use Rattle.ruby_grammar.specs.Terminals.{is_true, is_false, is_self, is_name, is_open_paren, is_open_bracket}
use Rattle.ruby_grammar.specs.Terminals.{is_open_brace}
use Rattle.ruby_grammar.specs.Terminals.{is_tight_paren, is_tight_bracket, is_ask, is_line, is_less, is_module}
use Rattle.ruby_grammar.specs.Terminals.{is_class}
use Rattle.ruby_grammar.specs.Terminals.{is_def, is_include, is_attr_reader, is_variable, is_assign, is_return}
use Rattle.ruby_grammar.specs.Terminals.{is_raise}
use Rattle.ruby_grammar.specs.Terminals.{is_if, is_unless, is_elsif, is_else, is_end, is_then}
use Rattle.ruby_grammar.specs.Rules.{ruby, Sort, Rule, Name, Body, Around, Scope, Block, file, definitions}
use Rattle.ruby_grammar.specs.Rules.{more_definitions, definition, path_rest, parent, constant, heading, parameter_list}
use Rattle.ruby_grammar.specs.Rules.{PathOpening, opened_path}
use Rattle.ruby_grammar.specs.Rules.{parameters, more_parameters, more_readers, statements, more_statements, statement}
use Rattle.ruby_grammar.specs.Rules.{simple_statement, condition_behind, then_or_line, perhaps_line, arms_rest}
use Rattle.ruby_grammar.specs.Rules.{perhaps_expression, expression, choice_rest, operators, more_operators, unary}
use Rattle.ruby_grammar.specs.Rules.{postfix, more_postfix, primary, name_rest, perhaps_arguments, members}
use Rattle.ruby_grammar.specs.Rules.{more_members, pairs, more_pairs, pair, text_parts}
use Rattle.ruby_grammar.specs.Language.{forms}
use Rattle.ruby_grammar.specs.Choices.{pick_opened_path}
use Rattle.ruby_grammar.specs.Choices.{next_is, pick, starts_expression, starts_statement, starts_pair}
use Rattle.ruby_grammar.specs.Choices.{starts_definition, pick_member, pick_path_rest, pick_set_ivar, pick_elsif}
use Rattle.ruby_grammar.specs.Choices.{pick_branch, pick_more_operators}
use Rattle.ruby_grammar.specs.Expressions as e
use Rattle.ruby_grammar.specs.Statements as s
use Rattle.ruby_grammar.specs.Definitions as d
use Rattle.ruby_grammar.proofs.Tools.{Fine, fine_if, fine_deepen, among_behind, among_before}

path_fine : (more : Bool) (ending : Option Mark) (names : List Name) (a : Option Word) →
    Fine ⊥ (e.path_rest_forms more ending names) (pick_path_rest more ending names a)
path_fine true ending names a = fine_if ⊥ _ (next_is is_path a) _ _ first (later first)
path_fine false ending names a = first

opened_fine : (more : Bool) (how : PathOpening) (names : List Name) (a : Option Word) →
    Fine ⊥ (d.opened_path_forms more how names) (pick_opened_path more how names a)
opened_fine true how names a = fine_if ⊥ _ (next_is is_path a) _ _ first (later first)
opened_fine false how names a = first

member_fine : (top : Bool) (here : Body) (a : Option Word) →
    Fine ⊥ (d.top_forms here ++ d.member_forms top here) (pick_member top here a)
member_fine true here a = tt
member_fine false here a =
    fine_if ⊥ _ (next_is is_include a) _ _ (among_behind (d.top_forms here) first)
    (fine_if ⊥ _ (next_is is_attr_reader a) _ _ (among_behind (d.top_forms here) (later first))
    (fine_if ⊥ _ (next_is is_def a) _ _
    (fine_deepen ⊥ _ here.levels (d.method_from here)
    (λ p am. among_behind (d.top_forms here) (later (later am)))) tt))

definition_fine : (here : Body) (a : Option Word) → Fine ⊥ (d.definition_forms here) (pick (definition here) a None)
definition_fine here a =
    fine_if ⊥ _ (next_is is_const a) _ _ first
    (fine_if ⊥ _ (next_is is_module a) _ _
    (fine_deepen ⊥ _ here.levels (d.module_from here) (λ p am. among_before _ (later (among_before _ am))))
    (fine_if ⊥ _ (next_is is_class a) _ _
    (fine_deepen ⊥ _ here.levels (d.class_from here) (λ p am. among_before _ (later (among_behind _ am))))
    (member_fine (d.at_top here.path) here a)))

set_fine : (sets : Bool) (here : Around) →
    Fine (Unit {0}) (s.returning here ∷ s.raising here ∷ s.setting here ∷
    (s.where_it_may sets (s.setting_ivar here) ++ (s.evaluating here ∷ []))) (pick_set_ivar sets here)
set_fine true here = later (later (later first))
set_fine false here = tt

simple_fine : (here : Around) (a b : Option Word) →
    Fine (Unit {0}) (s.simple_statement_forms here) (pick (simple_statement here) a b)
simple_fine here a b =
    fine_if (Unit {0}) _ (next_is is_return a) _ _ first
    (fine_if (Unit {0}) _ (next_is is_raise a) _ _ (later first)
    (fine_if (Unit {0}) _ (next_is is_variable a && next_is is_assign b) _ _ (later (later first))
    (fine_if (Unit {0}) _ (next_is is_ivar a && next_is is_assign b) _ _ (set_fine here.sets here)
    (later (later (later (among_behind (s.where_it_may here.sets (s.setting_ivar here)) first)))))))

statement_fine : (here : Around) (a : Option Word) → Fine ⊥ (s.statement_forms here) (pick (statement here) a None)
statement_fine here a =
    fine_if ⊥ _ (next_is is_if a) _ _ (fine_deepen ⊥ _ here.levels (s.if_from here) (λ p am. later (among_before _ am)))
    (fine_if ⊥ _ (next_is is_unless a) _ _
    (fine_deepen ⊥ _ here.levels (s.unless_from here) (λ p am. later (among_behind _ am)))
    first)

elsif_fine : (may_elsif : Bool) (levels : ℕ) (sets : Bool) (arms : List (Expr × List Stmt)) (b : Block)
    (a : Option Word) → Fine ⊥ (s.elsif_forms levels sets may_elsif arms b) (pick_elsif may_elsif levels sets arms b a)
elsif_fine true levels sets arms b a = fine_if ⊥ _ (next_is is_elsif a) _ _ first tt
elsif_fine false levels sets arms b a = tt

fine_later : {t : Sort} (ps : List (Prod ruby t)) (q : Prod ruby t) (c : Choice ruby t) → Fine ⊥ ps c →
    Fine ⊥ (q ∷ ps) c
fine_later ps q (take p) h = later h
fine_later ps q too_deep h = tt
fine_later ps q barred h = h
fine_later ps q nothing h = tt

branch_fine : (closed : Bool) (levels : ℕ) (sets may_elsif : Bool) (arms : List (Expr × List Stmt)) (b : Block)
    (a : Option Word) → Fine ⊥ (s.branch_forms closed levels sets may_elsif arms b)
    (pick_branch closed levels sets may_elsif arms b a)
branch_fine true levels sets may_elsif arms b a = fine_if ⊥ _ (next_is is_else a) _ _ first
    (fine_later _ _ _ (elsif_fine may_elsif levels sets arms b a))
branch_fine false levels sets may_elsif arms b a = tt

unary_fine : (here : Scope) (a : Option Word) → Fine ⊥ (e.unary_forms here) (pick (unary here) a None)
unary_fine here a =
    fine_if ⊥ _ (next_is is_not a) _ _ (fine_deepen ⊥ _ here.levels (e.not_from here) (λ p am. among_before _ am))
    (fine_if ⊥ _ (next_is is_minus a) _ _
    (fine_deepen ⊥ _ here.levels (e.minus_from here)
    (λ p am. among_behind (e.opening here.levels (e.not_from here)) (among_before _ am)))
    (among_behind (e.opening here.levels (e.not_from here))
    (among_behind (e.opening here.levels (e.minus_from here)) first)))

postfix_fine : (here : Scope) (x : Expr) (a : Option Word) →
    Fine ⊥ (e.more_postfix_forms here x) (pick (more_postfix here x) a None)
postfix_fine here x a =
    fine_if ⊥ _ (next_is is_dot a) _ _ first
    (fine_if ⊥ _ (next_is is_tight_bracket a) _ _
    (fine_deepen ⊥ _ here.levels (e.index_from here x) (λ p am. later (among_before _ am)))
    (later (among_behind (e.opening here.levels (e.index_from here x)) first)))

primary_fine : (here : Scope) (a : Option Word) → Fine ⊥ (e.primary_forms here) (pick (primary here) a None)
primary_fine here a =
    fine_if ⊥ _ (next_is is_int a) _ _ first
    (fine_if ⊥ _ (next_is is_text_open a) _ _ (later first)
    (fine_if ⊥ _ (next_is is_sym a) _ _ (later (later first))
    (fine_if ⊥ _ (next_is is_nil a) _ _ (later (later (later first)))
    (fine_if ⊥ _ (next_is is_true a) _ _ (later (later (later (later first))))
    (fine_if ⊥ _ (next_is is_false a) _ _ (later (later (later (later (later first)))))
    (fine_if ⊥ _ (next_is is_self a) _ _ (later (later (later (later (later (later first))))))
    (fine_if ⊥ _ (next_is is_name a) _ _ (later (later (later (later (later (later (later first)))))))
    (fine_if ⊥ _ (next_is is_ivar a) _ _ (later (later (later (later (later (later (later (later first))))))))
    (fine_if ⊥ _ (next_is is_path a || next_is is_const a) _ _
    (later (later (later (later (later (later (later (later (later first)))))))))
    (fine_if ⊥ _ (next_is is_open_bracket a) _ _
    (fine_deepen ⊥ _ here.levels (e.array_from here) (λ p am. nine (later (among_before _ am))))
    (fine_if ⊥ _ (next_is is_open_brace a) _ _
    (fine_deepen ⊥ _ here.levels (e.hash_from here)
    (λ p am. nine (later (among_behind (e.opening here.levels (e.array_from here)) (among_before _ am)))))
    (fine_if ⊥ _ (next_is is_open_paren a) _ _
    (fine_deepen ⊥ _ here.levels (e.group_from here)
    (λ p am. nine (later (among_behind (e.opening here.levels (e.array_from here))
    (among_behind (e.opening here.levels (e.hash_from here)) am)))))
    tt))))))))))))
  where
    nine : {A : Type 0} {p a b c d e f g h i : A} {ps : List A} → Among p ps →
        Among p (a ∷ b ∷ c ∷ d ∷ e ∷ f ∷ g ∷ h ∷ i ∷ ps)
    nine am = later (later (later (later (later (later (later (later (later am))))))))

operators_fine : (level : Level) (here : Scope) (x : Expr) (a : Option Word) →
    Fine ⊥ (e.more_operators_forms level here x) (pick_more_operators level here x a)
operators_fine units here x a = first
operators_fine products here x a = fine_if ⊥ _ (next_is (is_operator products) a) _ _ first (later first)
operators_fine sums here x a = fine_if ⊥ _ (next_is (is_operator sums) a) _ _ first (later first)
operators_fine comparisons here x a = fine_if ⊥ _ (next_is (is_operator comparisons) a) _ _ first (later first)
operators_fine equalities here x a = fine_if ⊥ _ (next_is (is_operator equalities) a) _ _ first (later first)
operators_fine conjunctions here x a = fine_if ⊥ _ (next_is (is_operator conjunctions) a) _ _ first (later first)
operators_fine disjunctions here x a = fine_if ⊥ _ (next_is (is_operator disjunctions) a) _ _ first (later first)

-- only a simple statement is barred
abbrev pub Bar : {t : Sort} → Rule t → Type 0
Bar (simple_statement here) = Unit {0}
Bar _ = ⊥

-- each choice of each rule is among its alternatives, and only a simple statement can be barred
pub fine : {t : Sort} (rule : Rule t) (a b : Option Word) → Fine (Bar rule) (forms rule) (pick rule a b)
fine (file levels anywhere) a b = fine_if ⊥ _ (next_is is_line a) _ _ first (later first)
fine (definitions here ds) a b = fine_if ⊥ _ (next_is (starts_definition here.path) a) _ _ first (later first)
fine (more_definitions here ds) a b = fine_if ⊥ _ (next_is is_line a) _ _ first (later first)
fine (definition here) a b = definition_fine here a
fine (path_rest more ending names) a b = path_fine more ending names a
fine (opened_path more how names) a b = opened_fine more how names a
fine (parent path at) a b = fine_if ⊥ _ (next_is is_less a) _ _ first
    (fine_if ⊥ _ (next_is is_line a) _ _ (later first) tt)
fine (constant ending) a b = fine_if ⊥ _ (next_is is_path a) _ _ first
    (fine_if ⊥ _ (next_is is_const a) _ _ (later first) tt)
fine (heading path) a b = fine_if ⊥ _ (next_is is_self a) _ _ first
    (fine_if ⊥ _ (next_is is_name a) _ _ (later first) tt)
fine (parameter_list levels) a b = fine_if ⊥ _ (next_is is_line a) _ _ first
    (fine_if ⊥ _ (next_is is_open_paren a) _ _ (fine_deepen ⊥ _ levels d.parameters_from (λ p am. later am)) tt)
fine parameters a b = fine_if ⊥ _ (next_is is_variable a) _ _ first (later first)
fine (more_parameters names) a b = fine_if ⊥ _ (next_is is_comma a) _ _ first (later first)
fine (more_readers path names) a b = fine_if ⊥ _ (next_is is_comma a) _ _ first (later first)
fine (statements here ss) a b = fine_if ⊥ _ (next_is starts_statement a) _ _ first (later first)
fine (more_statements here ss) a b = fine_if ⊥ _ (next_is is_line a) _ _ first (later first)
fine (statement here) a b = statement_fine here a
fine (simple_statement here) a b = simple_fine here a b
fine (condition_behind levels t) a b = fine_if ⊥ _ (next_is is_if a) _ _ first
    (fine_if ⊥ _ (next_is is_unless a) _ _ (later first) (later (later first)))
fine then_or_line a b = fine_if ⊥ _ (next_is is_then a) _ _ first (fine_if ⊥ _ (next_is is_line a) _ _ (later first) tt)
fine perhaps_line a b = fine_if ⊥ _ (next_is is_line a) _ _ first (later first)
fine (arms_rest levels sets may_elsif arms c) a b = fine_if ⊥ _ (next_is is_end a) _ _ first
    (fine_later _ _ _ (branch_fine c.closed levels sets may_elsif arms c a))
fine (perhaps_expression here) a b = fine_if ⊥ _ (next_is starts_expression a) _ _ first (later first)
fine (expression here) a b = first
fine (choice_rest here x) a b = fine_if ⊥ _ (next_is is_ask a) _ _ first (later first)
fine (operators level here) a b = first
fine (more_operators level here x) a b = operators_fine level here x a
fine (unary here) a b = unary_fine here a
fine (postfix here) a b = first
fine (more_postfix here x) a b = postfix_fine here x a
fine (primary here) a b = primary_fine here a
fine (name_rest here name) a b = fine_if ⊥ _ (next_is is_tight_paren a) _ _
    (fine_deepen ⊥ _ here.levels (e.call_from here name) (λ p am. among_before _ am))
    (among_behind (e.opening here.levels (e.call_from here name)) first)
fine (perhaps_arguments here) a b = fine_if ⊥ _ (next_is is_tight_paren a) _ _
    (fine_deepen ⊥ _ here.levels (e.arguments_from here) (λ p am. among_before _ am))
    (among_behind (e.opening here.levels (e.arguments_from here)) first)
fine (members here xs) a b = fine_if ⊥ _ (next_is starts_expression a) _ _ first (later first)
fine (more_members here xs) a b = fine_if ⊥ _ (next_is is_comma a) _ _ first (later first)
fine (pairs here ps) a b = fine_if ⊥ _ (next_is starts_pair a) _ _ first (later first)
fine (more_pairs here ps) a b = fine_if ⊥ _ (next_is is_comma a) _ _ first (later first)
fine (pair here) a b = fine_if ⊥ _ (next_is is_label a) _ _ first (later first)
fine (text_parts here double parts) a b =
    fine_if ⊥ _ (next_is is_text_piece a) _ _ first
    (fine_if ⊥ _ (next_is is_inside_open a) _ _
    (fine_deepen ⊥ _ here.levels (e.inside_from here double parts) (λ p am. later (among_before _ am)))
    (later (among_behind (e.opening here.levels (e.inside_from here double parts)) first)))

-- the law `chosen`: the reader takes no production that isn't an alternative of the rule
pub chosen : {t : Sort} (rule : Rule t) (a b : Option Word) (p : Prod ruby t) → pick rule a b ≡ take p →
    Among p (forms rule)
chosen rule a b p h = subst (λ c. Fine (Bar rule) (forms rule) c) h (fine rule a b)

-- what is barred is a simple statement: closes the case of each other rule
pub barred_is : {t : Sort} (rule : Rule t) (a b : Option Word) → pick rule a b ≡ barred → Bar rule
barred_is rule a b h = subst (λ c. Fine (Bar rule) (forms rule) c) h (fine rule a b)
