-- Where marks stand.
use Rattle.std.proofs.Common.{◌≡◌, ℕ, Bool, true, false, List, ◌++◌, Option, Some, None, refl}
use Rattle.ruby_types.specs.declared.tree.Expr.{Expr}
use Rattle.ruby_types.specs.declared.tree.Stmt.{Stmt}
use Rattle.descent.specs.Grammar.{Prod, Among}
use Rattle.descent.specs.Lawful.{Plain, Quiet}
use Rattle.ruby_grammar.specs.Words.{Word}
use Rattle.ruby_grammar.specs.Terminals.{Level, units, products, sums, comparisons, equalities, conjunctions}
use Rattle.ruby_grammar.specs.Terminals.{disjunctions}
use Rattle.ruby_grammar.specs.Rules.{ruby, Sort, Rule, Body, Around, Scope, Block, file, definitions, more_definitions}
use Rattle.ruby_grammar.specs.Rules.{definition, path_rest, parent, constant, heading, parameter_list, parameters}
use Rattle.ruby_grammar.specs.Rules.{opened_path}
use Rattle.ruby_grammar.specs.Rules.{more_parameters, more_readers, statements, more_statements, statement}
use Rattle.ruby_grammar.specs.Rules.{simple_statement, condition_behind, then_or_line, perhaps_line, arms_rest}
use Rattle.ruby_grammar.specs.Rules.{perhaps_expression, expression, choice_rest, operators, more_operators, unary}
use Rattle.ruby_grammar.specs.Rules.{postfix, more_postfix, primary, name_rest, perhaps_arguments, members}
use Rattle.ruby_grammar.specs.Rules.{more_members, pairs, more_pairs, pair, text_parts}
use Rattle.ruby_grammar.specs.Language.{forms}
use Rattle.ruby_grammar.specs.Follow.{ruby_follow, begins_plain, is_quiet, looks}
use Rattle.ruby_grammar.specs.Expressions as e
use Rattle.ruby_grammar.specs.Statements as s
use Rattle.ruby_grammar.specs.Definitions as d
use Rattle.ruby_grammar.proofs.Tools.{Each, each_among, each_append, each_opening}

abbrev AllPlain : {t : Sort} → List (Prod ruby t) → Type 0
AllPlain ps = Each (λ p. Plain ruby_follow p) ps

opening_plain : {t : Sort} (levels : ℕ) (f : ℕ → Prod ruby t) (qs : List (Prod ruby t)) →
    ((n : ℕ) → Plain ruby_follow (f n)) → AllPlain qs → AllPlain (e.opening levels f ++ qs)
opening_plain levels f qs h k = each_append (λ p. Plain ruby_follow p) (e.opening levels f) qs
    (each_opening (λ p. Plain ruby_follow p) levels f h) k

opened_plain : {t : Sort} (levels : ℕ) (f : ℕ → Prod ruby t) → ((n : ℕ) → Plain ruby_follow (f n)) →
    AllPlain (e.opening levels f)
opened_plain levels f h = each_opening (λ p. Plain ruby_follow p) levels f h

operators_plain : (level : Level) (here : Scope) → AllPlain (e.operators_forms level here)
operators_plain units here = ((refl, λ y. tt), tt)
operators_plain products here = ((refl, λ y. (refl, λ z. tt)), tt)
operators_plain sums here = ((refl, λ y. (refl, λ z. tt)), tt)
operators_plain comparisons here = ((refl, λ y. (refl, λ z. tt)), tt)
operators_plain equalities here = ((refl, λ y. (refl, λ z. tt)), tt)
operators_plain conjunctions here = ((refl, λ y. (refl, λ z. tt)), tt)
operators_plain disjunctions here = ((refl, λ y. (refl, λ z. tt)), tt)

set_plain : (sets : Bool) (here : Around) → AllPlain (s.where_it_may sets (s.setting_ivar here))
set_plain true here = (tt, tt)
set_plain false here = tt

elsif_plain : (may_elsif : Bool) (levels : ℕ) (sets : Bool) (arms : List (Expr × List Stmt)) (b : Block) →
    AllPlain (s.elsif_forms levels sets may_elsif arms b)
elsif_plain true levels sets arms b = (tt, tt)
elsif_plain false levels sets arms b = tt

branch_plain : (closed : Bool) (levels : ℕ) (sets may_elsif : Bool) (arms : List (Expr × List Stmt)) (b : Block) →
    AllPlain (s.branch_forms closed levels sets may_elsif arms b)
branch_plain true levels sets may_elsif arms b = (tt, elsif_plain may_elsif levels sets arms b)
branch_plain false levels sets may_elsif arms b = tt

member_plain : (top : Bool) (here : Body) → AllPlain (d.member_forms top here)
member_plain true here = tt
member_plain false here = (tt, (tt, opened_plain here.levels (d.method_from here) (λ n. tt)))

plain_forms : {t : Sort} (rule : Rule t) → begins_plain rule ≡ true → AllPlain (forms rule)
plain_forms (statements here ss) h = ((refl, λ y. (refl, λ z. tt)), (tt, tt))
plain_forms (more_statements here ss) h = (tt, (tt, tt))
plain_forms (statement here) h = (
  (refl, λ y. (refl, λ z. tt)),
  opening_plain here.levels (s.if_from here) _ (λ n. tt)
      (opened_plain here.levels (s.unless_from here) (λ n. tt)),
)
plain_forms (simple_statement here) h = (
  tt,
  (
    tt,
    (
      tt,
      each_append (λ p. Plain ruby_follow p) (s.where_it_may here.sets (s.setting_ivar here)) _
          (set_plain here.sets here) ((refl, λ y. tt), tt),
    ),
  ),
)
plain_forms (condition_behind levels t) h = (tt, (tt, (tt, tt)))
plain_forms then_or_line h = (tt, (tt, tt))
plain_forms perhaps_line h = (tt, (tt, tt))
plain_forms (arms_rest levels sets may_elsif arms b) h = (tt, branch_plain b.closed levels sets may_elsif arms b)
plain_forms (perhaps_expression here) h = ((refl, λ y. tt), (tt, tt))
plain_forms (expression here) h = ((refl, λ y. (refl, λ z. tt)), tt)
plain_forms (choice_rest here x) h = (tt, (tt, tt))
plain_forms (operators level here) h = operators_plain level here
plain_forms (more_operators units here x) h = (tt, tt)
plain_forms (more_operators products here x) h = (tt, (tt, tt))
plain_forms (more_operators sums here x) h = (tt, (tt, tt))
plain_forms (more_operators comparisons here x) h = (tt, (tt, tt))
plain_forms (more_operators equalities here x) h = (tt, (tt, tt))
plain_forms (more_operators conjunctions here x) h = (tt, (tt, tt))
plain_forms (more_operators disjunctions here x) h = (tt, (tt, tt))
plain_forms (unary here) h = opening_plain here.levels (e.not_from here) _ (λ n. tt)
    (opening_plain here.levels (e.minus_from here) _ (λ n. tt) (((refl, λ y. tt), tt)))
plain_forms (postfix here) h = ((refl, λ y. (refl, λ z. tt)), tt)
plain_forms (more_postfix here x) h = (tt, opening_plain here.levels (e.index_from here x) _ (λ n. tt) ((tt, tt)))
plain_forms (primary here) h = (
  tt,
  (
    tt,
    (
      tt,
      (
        tt,
        (
          tt,
          (
            tt,
            (
              tt,
              (
                tt,
                (
                  tt,
                  (
                    (refl, λ y. tt),
                    opening_plain here.levels (e.array_from here) _ (λ n. tt)
                        (opening_plain here.levels (e.hash_from here) _ (λ n. tt)
                        (opened_plain here.levels (e.group_from here) (λ n. tt))),
                  ),
                ),
              ),
            ),
          ),
        ),
      ),
    ),
  ),
)
plain_forms (name_rest here name) h = opening_plain here.levels (e.call_from here name) _ (λ n. tt) ((tt, tt))
plain_forms (perhaps_arguments here) h = opening_plain here.levels (e.arguments_from here) _ (λ n. tt) ((tt, tt))
plain_forms (members here xs) h = ((refl, λ y. (refl, λ z. tt)), (tt, tt))
plain_forms (pairs here xs) h = ((refl, λ y. (refl, λ z. tt)), (tt, tt))
plain_forms (more_members here xs) h = (tt, (tt, tt))
plain_forms (more_pairs here xs) h = (tt, (tt, tt))
plain_forms (pair here) h = (tt, ((refl, λ x. tt), tt))
plain_forms (text_parts here double parts) h =
    (tt, opening_plain here.levels (e.inside_from here double parts) _ (λ n. tt) ((tt, tt)))
plain_forms (heading path) h = (tt, (tt, tt))
plain_forms parameters h = (tt, (tt, tt))
plain_forms (more_parameters names) h = (tt, (tt, tt))
plain_forms (path_rest true None names) h = (tt, (tt, tt))
plain_forms (path_rest false None names) h = (tt, tt)
plain_forms (path_rest true (Some m) names) h = cc
plain_forms (path_rest false (Some m) names) h = cc
plain_forms (opened_path more how names) h = cc
plain_forms (constant ending) h = (tt, (tt, tt))
plain_forms (parent path at) h = (tt, (tt, tt))
plain_forms (more_readers path names) h = (tt, (tt, tt))
plain_forms (file levels anywhere) h = (tt, ((refl, λ y. tt), tt))
plain_forms (definitions here ds) h = ((refl, λ y. (refl, λ z. tt)), (tt, tt))
plain_forms (more_definitions here ds) h = (tt, (tt, tt))
plain_forms (definition here) h = each_append (λ p. Plain ruby_follow p) (d.top_forms here) _ (
  tt,
  opening_plain here.levels (d.module_from here) _ (λ n. tt)
      (opened_plain here.levels (d.class_from here) (λ n. tt)),
) (member_plain (d.at_top here.path) here)
plain_forms (parameter_list levels) h = (tt, opened_plain levels d.parameters_from (λ n. tt))

-- the law `plain_rule`: no sentence begins with a mark, but at the end of a path that counts
pub plain_rule : {t : Sort} (rule : Rule t) (p : Prod ruby t) → Among p (forms rule) → begins_plain rule ≡ true →
    Plain ruby_follow p
plain_rule rule p am h = each_among (λ q. Plain ruby_follow q) (plain_forms rule h) am

abbrev AllQuiet : {t : Sort} → List (Prod ruby t) → Type 0
AllQuiet ps = Each (λ p. Quiet ruby_follow p) ps

opening_quiet : {t : Sort} (levels : ℕ) (f : ℕ → Prod ruby t) (qs : List (Prod ruby t)) →
    ((n : ℕ) → Quiet ruby_follow (f n)) → AllQuiet qs → AllQuiet (e.opening levels f ++ qs)
opening_quiet levels f qs h k = each_append (λ p. Quiet ruby_follow p) (e.opening levels f) qs
    (each_opening (λ p. Quiet ruby_follow p) levels f h) k

opened_quiet : {t : Sort} (levels : ℕ) (f : ℕ → Prod ruby t) → ((n : ℕ) → Quiet ruby_follow (f n)) →
    AllQuiet (e.opening levels f)
opened_quiet levels f h = each_opening (λ p. Quiet ruby_follow p) levels f h

behind_quiet : (b : Bool) (level : Level) (here : Scope) (a : Expr) →
    Quiet ruby_follow (e.operators_behind b level here a)
behind_quiet true level here a = (refl, λ z. tt)
behind_quiet false level here a = tt

operators_quiet : (level : Level) (here : Scope) → AllQuiet (e.operators_forms level here)
operators_quiet units here = ((refl, λ y. tt), tt)
operators_quiet products here = ((refl, λ y. (refl, λ z. tt)), tt)
operators_quiet sums here = ((refl, λ y. (refl, λ z. tt)), tt)
operators_quiet comparisons here = ((refl, λ y. (refl, λ z. tt)), tt)
operators_quiet equalities here = ((refl, λ y. (refl, λ z. tt)), tt)
operators_quiet conjunctions here = ((refl, λ y. (refl, λ z. tt)), tt)
operators_quiet disjunctions here = ((refl, λ y. (refl, λ z. tt)), tt)

set_quiet : (sets : Bool) (here : Around) → AllQuiet (s.where_it_may sets (s.setting_ivar here))
set_quiet true here = (λ w0 t0 w1 t1. (refl, λ y. tt), tt)
set_quiet false here = tt

elsif_quiet : (may_elsif : Bool) (levels : ℕ) (sets : Bool) (arms : List (Expr × List Stmt)) (b : Block) →
    AllQuiet (s.elsif_forms levels sets may_elsif arms b)
elsif_quiet true levels sets arms b = (λ w0 t0. (refl, λ x. (refl, λ y. (refl, λ z. (refl, λ r. tt)))), tt)
elsif_quiet false levels sets arms b = tt

branch_quiet : (closed : Bool) (levels : ℕ) (sets may_elsif : Bool) (arms : List (Expr × List Stmt)) (b : Block) →
    AllQuiet (s.branch_forms closed levels sets may_elsif arms b)
branch_quiet true levels sets may_elsif arms b =
    (λ w0 t0. (refl, λ x. (refl, λ y w1 t1. tt)), elsif_quiet may_elsif levels sets arms b)
branch_quiet false levels sets may_elsif arms b = tt

quiet_forms : {t : Sort} (rule : Rule t) → is_quiet rule ≡ true → AllQuiet (forms rule)
quiet_forms (statements here ss) h = ((refl, λ y. (refl, λ z. tt)), (tt, tt))
quiet_forms (more_statements here ss) h = (λ w0 t0. (refl, λ y. tt), (tt, tt))
quiet_forms (statement here) h = (
  (refl, λ y. (refl, λ z. tt)),
  opening_quiet here.levels (s.if_from here) _
      (λ n. λ w0 t0. (refl, λ x. (refl, λ y. (refl, λ z. (refl, λ r. tt)))))
      (opened_quiet here.levels (s.unless_from here)
      (λ n. λ w0 t0. (refl, λ x. (refl, λ y. (refl, λ z. (refl, λ r. tt)))))),
)
quiet_forms (simple_statement here) h = (
  λ w0 t0. (refl, λ y. tt),
  (
    λ w0 t0. (refl, λ y. tt),
    (
      λ w0 t0 w1 t1. (refl, λ y. tt),
      each_append (λ p. Quiet ruby_follow p)
          (s.where_it_may here.sets (s.setting_ivar here)) _ (set_quiet here.sets here) ((refl, λ y. tt), tt),
    ),
  ),
)
quiet_forms (condition_behind levels t) h = (λ w0 t0. (refl, λ y. tt), (λ w0 t0. (refl, λ y. tt), (tt, tt)))
quiet_forms then_or_line h = (λ w0 t0. (refl, λ y. tt), (λ w0 t0. tt, tt))
quiet_forms perhaps_line h = (λ w0 t0. tt, (tt, tt))
quiet_forms (arms_rest levels sets may_elsif arms b) h =
    (λ w0 t0. tt, branch_quiet b.closed levels sets may_elsif arms b)
quiet_forms (perhaps_expression here) h = ((refl, λ y. tt), (tt, tt))
quiet_forms (expression here) h = ((refl, λ y. (refl, λ z. tt)), tt)
quiet_forms (choice_rest here x) h = (λ w0 t0. (refl, λ y w1 t1. (refl, λ z. tt)), (tt, tt))
quiet_forms (operators level here) h = operators_quiet level here
quiet_forms (more_operators units here x) h = (tt, tt)
quiet_forms (more_operators products here x) h = (λ w0 t0. (refl, λ y. (refl, λ z. tt)), (tt, tt))
quiet_forms (more_operators sums here x) h = (λ w0 t0. (refl, λ y. (refl, λ z. tt)), (tt, tt))
quiet_forms (more_operators comparisons here x) h = (λ w0 t0. (refl, λ y. (refl, λ z. tt)), (tt, tt))
quiet_forms (more_operators equalities here x) h = (λ w0 t0. (refl, λ y. tt), (tt, tt))
quiet_forms (more_operators conjunctions here x) h = (λ w0 t0. (refl, λ y. (refl, λ z. tt)), (tt, tt))
quiet_forms (more_operators disjunctions here x) h = (λ w0 t0. (refl, λ y. (refl, λ z. tt)), (tt, tt))
quiet_forms (unary here) h = opening_quiet here.levels (e.not_from here) _ (λ n. λ w0 t0. (refl, λ y. tt))
    (opening_quiet here.levels (e.minus_from here) _ (λ n. λ w0 t0. (refl, λ y. tt)) (((refl, λ y. tt), tt)))
quiet_forms (postfix here) h = ((refl, λ y. (refl, λ z. tt)), tt)
quiet_forms (more_postfix here x) h = (
  λ w0 t0 w1 t1. (refl, λ y. (refl, λ z. tt)),
  opening_quiet here.levels (e.index_from here x) _
      (λ n. λ w0 t0. (refl, λ y w1 t1. (refl, λ z. tt))) ((tt, tt)),
)
quiet_forms (primary here) h = (
  λ w0 t0. tt,
  (
    λ w0 t0. (refl, λ y w1 t1. tt),
    (
      λ w0 t0. tt,
      (
        λ w0 t0. tt,
        (
          λ w0 t0. tt,
          (
            λ w0 t0. tt,
            (
              λ w0 t0. tt,
              (
                λ w0 t0. (refl, λ y. tt),
                (
                  λ w0 t0. tt,
                  (
                    (refl, λ y. tt),
                    opening_quiet here.levels (e.array_from here) _
                        (λ n. λ w0 t0. (refl, λ y w1 t1. tt))
                        (opening_quiet here.levels (e.hash_from here) _ (λ n. λ w0 t0. (refl, λ y w1 t1. tt))
                        (opened_quiet here.levels (e.group_from here) (λ n. λ w0 t0. (refl, λ y w1 t1. tt)))),
                  ),
                ),
              ),
            ),
          ),
        ),
      ),
    ),
  ),
)
quiet_forms (name_rest here name) h = opening_quiet here.levels (e.call_from here name) _
    (λ n. λ w0 t0. (refl, λ y w1 t1. tt)) ((tt, tt))
quiet_forms (perhaps_arguments here) h = opening_quiet here.levels (e.arguments_from here) _
    (λ n. λ w0 t0. (refl, λ y w1 t1. tt)) ((tt, tt))
quiet_forms (members here xs) h = ((refl, λ y. (refl, λ z. tt)), (tt, tt))
quiet_forms (pairs here xs) h = ((refl, λ y. (refl, λ z. tt)), (tt, tt))
quiet_forms (more_members here xs) h = (λ w0 t0. (refl, λ y. tt), (tt, tt))
quiet_forms (more_pairs here xs) h = (λ w0 t0. (refl, λ y. tt), (tt, tt))
quiet_forms (pair here) h = (λ w0 t0. (refl, λ y. tt), ((refl, λ x w1 t1. (refl, λ y. tt)), tt))
quiet_forms (text_parts here double parts) h = (
  λ w0 t0. (refl, λ y. tt),
  opening_quiet here.levels (e.inside_from here double parts) _
      (λ n. λ w0 t0. (refl, λ y w1 t1. (refl, λ z. tt))) ((tt, tt)),
)
quiet_forms (heading path) h = cc
quiet_forms parameters h = (λ w0 t0. (refl, λ y. tt), (tt, tt))
quiet_forms (more_parameters names) h = (λ w0 t0 w1 t1. (refl, λ y. tt), (tt, tt))
quiet_forms (path_rest true None names) h = (λ w0 t0 w1 t1. (refl, λ y. tt), (tt, tt))
quiet_forms (path_rest false None names) h = (tt, tt)
quiet_forms (path_rest true (Some m) names) h = cc
quiet_forms (path_rest false (Some m) names) h = cc
quiet_forms (opened_path more how names) h = cc
quiet_forms (constant None) h = (λ w0 t0 w1 t1. (refl, λ y. tt), (λ w0 t0. (refl, λ y. tt), tt))
quiet_forms (constant (Some m)) h = cc
quiet_forms (file levels anywhere) h = cc
quiet_forms (definitions here ds) h = cc
quiet_forms (more_definitions here ds) h = cc
quiet_forms (definition here) h = cc
quiet_forms (parent path at) h = cc
quiet_forms (parameter_list levels) h =
    (λ w0 t0. tt, opened_quiet levels d.parameters_from (λ n. λ w0 t0. (refl, λ y w1 t1 w2 t2. tt)))
quiet_forms (more_readers path names) h = cc

-- the law `quiet_rule`: in statements and expressions no sentence has a mark
pub quiet_rule : {t : Sort} (rule : Rule t) (p : Prod ruby t) → Among p (forms rule) → is_quiet rule ≡ true →
    Quiet ruby_follow p
quiet_rule rule p am h = each_among (λ q. Quiet ruby_follow q) (quiet_forms rule h) am

-- the law `looks_quiet`: only a simple statement looks at two words, and it has no marks
pub looks_quiet : {t : Sort} (rule : Rule t) (a : Option Word) → looks rule a ≡ true → (is_quiet rule ≡ true)
    × (begins_plain rule ≡ true)
looks_quiet (simple_statement here) a h = (refl, refl)
looks_quiet (file levels anywhere) a h = cc
looks_quiet (definitions here ds) a h = cc
looks_quiet (more_definitions here ds) a h = cc
looks_quiet (definition here) a h = cc
looks_quiet (path_rest more ending names) a h = cc
looks_quiet (opened_path more how names) a h = cc
looks_quiet (parent path at) a h = cc
looks_quiet (constant ending) a h = cc
looks_quiet (heading path) a h = cc
looks_quiet (parameter_list levels) a h = cc
looks_quiet parameters a h = cc
looks_quiet (more_parameters names) a h = cc
looks_quiet (more_readers path names) a h = cc
looks_quiet (statements here ss) a h = cc
looks_quiet (more_statements here ss) a h = cc
looks_quiet (statement here) a h = cc
looks_quiet (condition_behind levels t) a h = cc
looks_quiet then_or_line a h = cc
looks_quiet perhaps_line a h = cc
looks_quiet (arms_rest levels sets may_elsif arms b) a h = cc
looks_quiet (perhaps_expression here) a h = cc
looks_quiet (expression here) a h = cc
looks_quiet (choice_rest here x) a h = cc
looks_quiet (operators level here) a h = cc
looks_quiet (more_operators level here x) a h = cc
looks_quiet (unary here) a h = cc
looks_quiet (postfix here) a h = cc
looks_quiet (more_postfix here x) a h = cc
looks_quiet (primary here) a h = cc
looks_quiet (name_rest here name) a h = cc
looks_quiet (perhaps_arguments here) a h = cc
looks_quiet (members here xs) a h = cc
looks_quiet (more_members here xs) a h = cc
looks_quiet (pairs here ps) a h = cc
looks_quiet (more_pairs here ps) a h = cc
looks_quiet (pair here) a h = cc
looks_quiet (text_parts here double parts) a h = cc
