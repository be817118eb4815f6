-- A word that the profile leaves out stands in no sentence.
use Rattle.std.proofs.Common.{◌≡◌, ℕ, Bool, true, false, ◌||◌, ◌&&◌, List, [], ◌∷◌, ◌++◌, Some, None, refl, sym, subst}
use Rattle.std.proofs.Common.{ap, ◌∙◌, append_assoc}
use Rattle.ruby_types.specs.declared.tree.Expr.{Expr}
use Rattle.ruby_types.specs.declared.tree.Stmt.{Stmt}
use Rattle.descent.specs.Grammar.{Prod, Among, words}
use Rattle.ruby_grammar.specs.Words.{Word}
use Rattle.ruby_grammar.specs.Terminals.{Level, units, products, sums, comparisons, equalities, conjunctions}
use Rattle.ruby_grammar.specs.Terminals.{disjunctions}
use Rattle.ruby_grammar.specs.Terminals.{is_operator, is_name, is_open_paren, is_open_bracket, is_tight_paren}
use Rattle.ruby_grammar.specs.Terminals.{is_tight_bracket, is_variable}
use Rattle.ruby_grammar.specs.Rules.{ruby, Sort, Rule, Name, Body, Block, file, definitions, more_definitions}
use Rattle.ruby_grammar.specs.Rules.{definition, path_rest, parent, constant, heading, parameter_list, parameters}
use Rattle.ruby_grammar.specs.Rules.{opened_path}
use Rattle.ruby_grammar.specs.Rules.{more_parameters, more_readers, statements, more_statements, statement}
use Rattle.ruby_grammar.specs.Rules.{simple_statement, condition_behind, then_or_line, perhaps_line, arms_rest}
use Rattle.ruby_grammar.specs.Rules.{perhaps_expression, expression, choice_rest, operators, more_operators, unary}
use Rattle.ruby_grammar.specs.Rules.{postfix, more_postfix, primary, name_rest, perhaps_arguments, members}
use Rattle.ruby_grammar.specs.Rules.{more_members, pairs, more_pairs, pair, text_parts}
use Rattle.ruby_grammar.specs.Language.{forms, ruby_grammar}
use Rattle.ruby_grammar.specs.Expressions as e
use Rattle.ruby_grammar.specs.Statements as s
use Rattle.ruby_grammar.specs.Definitions as d
use Rattle.std.specs.Prelude.{◌==◌, nat_le}
use Rattle.descent.specs.Faults.{Begins}
use Rattle.descent.proofs.Lists.{words_append}
use Rattle.descent.proofs.Avoids.{Avoided, Avoids, NoneBad, avoids}
use Rattle.ruby_grammar.specs.Terminals.{is, is_left_out, is_new_parameter}
use Rattle.ruby_grammar.proofs.Tools.{Each, each_among, each_append, each_opening, terminal_is, and_true}

abbrev left_out : Avoided ruby
left_out = record { bad = is_left_out; clean = λ rule. true }

abbrev left_terminal : ℕ → Bool
left_terminal n = (nat_le 18 n && nat_le n 47) || (n == 99)

inside : (n : ℕ) → left_terminal n ≡ false → (w : Word) → is n w ≡ true → is_left_out w ≡ false
inside n h w t = subst (λ k. left_terminal k ≡ false) (sym (terminal_is n w t)) h

variable_inside : (w : Word) → is_variable w ≡ true → is_left_out w ≡ false
variable_inside w t = inside 0 refl w (and_true (is_name w) _ t).0

new_inside : (names : List Name) (w : Word) → is_new_parameter names w ≡ true → is_left_out w ≡ false
new_inside names w t = variable_inside w (and_true (is_variable w) _ t).0

paren_inside : (w : Word) → is_tight_paren w ≡ true → is_left_out w ≡ false
paren_inside w t = inside 91 refl w (and_true (is_open_paren w) _ t).0

bracket_inside : (w : Word) → is_tight_bracket w ≡ true → is_left_out w ≡ false
bracket_inside w t = inside 93 refl w (and_true (is_open_bracket w) _ t).0

one_of : (w : Word) (a b : Bool) → (a || b) ≡ true → (a ≡ true → is_left_out w ≡ false) →
    (b ≡ true → is_left_out w ≡ false) → is_left_out w ≡ false
one_of w true b t h k = h refl
one_of w false b t h k = k t

operator_inside : (level : Level) (w : Word) → is_operator level w ≡ true → is_left_out w ≡ false
operator_inside units w t = cc
operator_inside disjunctions w t = inside 70 refl w t
operator_inside conjunctions w t = inside 71 refl w t
operator_inside equalities w t = one_of w (is 73 w) (is 74 w) t (inside 73 refl w) (inside 74 refl w)
operator_inside comparisons w t =
    one_of w (is 75 w || is 76 w || is 77 w) (is 78 w) t
    (λ u. one_of w (is 75 w || is 76 w) (is 77 w) u
    (λ v. one_of w (is 75 w) (is 76 w) v (inside 75 refl w) (inside 76 refl w)) (inside 77 refl w))
    (inside 78 refl w)
operator_inside sums w t = one_of w (is 79 w) (is 80 w) t (inside 79 refl w) (inside 80 refl w)
operator_inside products w t = one_of w (is 81 w || is 82 w) (is 83 w) t
    (λ u. one_of w (is 81 w) (is 82 w) u (inside 81 refl w) (inside 82 refl w)) (inside 83 refl w)

abbrev AllIn : {t : Sort} → List (Prod ruby t) → Type 0
AllIn ps = Each (λ p. Avoids left_out p) ps

member_in : (top : Bool) (here : Body) → AllIn (d.member_forms top here)
member_in true here = tt
member_in false here = (
  (λ w t. (inside 16 refl w t, (refl, λ y. tt))),
  (
    (λ w t. (inside 17 refl w t, (λ w t. (inside 54 refl w t, (refl, λ y. tt))))),
    each_opening (λ p. Avoids left_out p) here.levels (d.method_from here)
        (λ n. (λ w t. (inside 3 refl w t, (refl, λ y. (refl, λ y. (refl, λ y. (λ w t. (inside 4 refl w t, tt)))))))),
  ),
)

may_in : {t : Sort} (may : Bool) (p : Prod ruby t) → Avoids left_out p → AllIn (s.where_it_may may p)
may_in true p h = (h, tt)
may_in false p h = tt

branch_in : (closed : Bool) (levels : ℕ) (sets may_elsif : Bool) (arms : List (Expr × List Stmt)) (b : Block) →
    AllIn (s.branch_forms closed levels sets may_elsif arms b)
branch_in true levels sets may_elsif arms b = (
  (λ w t. (inside 7 refl w t, (refl, λ y. (refl, λ y. (λ w t. (inside 4 refl w t, tt)))))),
  may_in may_elsif (s.elsif_more levels sets arms b)
      (λ w t. (inside 6 refl w t, (refl, λ y. (refl, λ y. (refl, λ y. (refl, λ y. tt)))))),
)
branch_in false levels sets may_elsif arms b = tt

all_in : {t : Sort} (rule : Rule t) → AllIn (forms rule)
all_in (file levels anywhere) = ((λ w t. (inside 50 refl w t, (refl, λ y. tt))), ((refl, λ y. tt), tt))
all_in (definitions here ds) = ((refl, λ y. (refl, λ y. tt)), (tt, tt))
all_in (more_definitions here ds) = ((λ w t. (inside 50 refl w t, (refl, λ y. tt))), (tt, tt))
all_in (definition here) = each_append (λ p. Avoids left_out p) (d.top_forms here) _ (
  (λ w t. (inside 51 refl w t, (λ w t. (inside 89 refl w t, (refl, λ y. tt))))),
  each_append (λ p. Avoids left_out p) (e.opening here.levels (d.module_from here)) _
      (each_opening (λ p. Avoids left_out p) here.levels (d.module_from here)
      (λ n. (λ w t. (
        inside 1 refl w t,
        (λ w t. (
          inside 51 refl w t,
          (refl, λ y. (λ w t. (inside 50 refl w t, (refl, λ y. (λ w t. (inside 4 refl w t, tt)))))),
        )),
      ))))
      (each_opening (λ p. Avoids left_out p) here.levels (d.class_from here)
      (λ n. (λ w t. (
        inside 2 refl w t,
        (λ w t. (inside 51 refl w t, (refl, λ y. (refl, λ y. (refl, λ y. (λ w t. (inside 4 refl w t, tt))))))),
      )))),
)
    (member_in (d.at_top here.path) here)
all_in (path_rest true None names) =
    ((λ w t. (inside 86 refl w t, (λ w t. (inside 51 refl w t, (refl, λ y. tt))))), (tt, tt))
all_in (path_rest false None names) = (tt, tt)
all_in (path_rest true (Some m) names) =
    ((λ w t. (inside 86 refl w t, (λ w t. (inside 51 refl w t, (refl, λ y. tt))))), (tt, tt))
all_in (path_rest false (Some m) names) = (tt, tt)
all_in (opened_path true how names) =
    ((λ w t. (inside 86 refl w t, (λ w t. (inside 51 refl w t, (refl, λ y. tt))))), (tt, tt))
all_in (opened_path false how names) = (tt, tt)
all_in (parent path at) = (
  (λ w t. (inside 75 refl w t, (refl, λ y. (λ w t. (inside 50 refl w t, tt))))),
  ((λ w t. (inside 50 refl w t, tt)), tt),
)
all_in (constant ending) = (
  (λ w t. (inside 86 refl w t, (λ w t. (inside 51 refl w t, (refl, λ y. tt))))),
  ((λ w t. (inside 51 refl w t, (refl, λ y. tt))), tt),
)
all_in (heading path) = (
  (λ w t. (inside 11 refl w t, (λ w t. (inside 87 refl w t, (λ w t. (inside 0 refl w t, tt)))))),
  ((λ w t. (inside 0 refl w t, tt)), tt),
)
all_in (parameter_list levels) = (
  (λ w t. (inside 50 refl w t, tt)),
  each_opening (λ p. Avoids left_out p) levels d.parameters_from
      (λ n. (λ w t. (
        inside 91 refl w t,
        (refl, λ y. (λ w t. (inside 92 refl w t, (λ w t. (inside 50 refl w t, tt))))),
      ))),
)
all_in parameters = ((λ w t. (variable_inside w t, (refl, λ y. tt))), (tt, tt))
all_in (more_parameters names) = ((λ w t. (inside 88 refl w t, (λ w t. (new_inside _ w t, (refl, λ y. tt))))), (tt, tt))
all_in (more_readers path names) =
    ((λ w t. (inside 88 refl w t, (λ w t. (inside 54 refl w t, (refl, λ y. tt))))), (tt, tt))
all_in (statements here ss) = ((refl, λ y. (refl, λ y. tt)), (tt, tt))
all_in (more_statements here ss) = ((λ w t. (inside 50 refl w t, (refl, λ y. tt))), (tt, tt))
all_in (statement here) = (
  (refl, λ y. (refl, λ y. tt)),
  each_append (λ p. Avoids left_out p) (e.opening here.levels (s.if_from here)) _
      (each_opening (λ p. Avoids left_out p) here.levels (s.if_from here)
      (λ n. (λ w t. (inside 5 refl w t, (refl, λ y. (refl, λ y. (refl, λ y. (refl, λ y. tt))))))))
      (each_opening (λ p. Avoids left_out p) here.levels (s.unless_from here)
      (λ n. (λ w t. (inside 8 refl w t, (refl, λ y. (refl, λ y. (refl, λ y. (refl, λ y. tt)))))))),
)
all_in (simple_statement here) = (
  (λ w t. (inside 10 refl w t, (refl, λ y. tt))),
  (
    (λ w t. (inside 15 refl w t, (refl, λ y. tt))),
    (
      (λ w t. (variable_inside w t, (λ w t. (inside 89 refl w t, (refl, λ y. tt))))),
      each_append (λ p. Avoids left_out p) (s.where_it_may here.sets (s.setting_ivar here)) _
          (may_in here.sets (s.setting_ivar here)
          (λ w t. (inside 52 refl w t, (λ w t. (inside 89 refl w t, (refl, λ y. tt)))))) ((refl, λ y. tt), tt),
    ),
  ),
)
all_in (condition_behind levels t) =
    ((λ w t. (inside 5 refl w t, (refl, λ y. tt))), ((λ w t. (inside 8 refl w t, (refl, λ y. tt))), (tt, tt)))
all_in then_or_line = ((λ w t. (inside 9 refl w t, (refl, λ y. tt))), ((λ w t. (inside 50 refl w t, tt)), tt))
all_in perhaps_line = ((λ w t. (inside 50 refl w t, tt)), (tt, tt))
all_in (arms_rest levels sets may_elsif arms b) =
    ((λ w t. (inside 4 refl w t, tt)), branch_in b.closed levels sets may_elsif arms b)
all_in (perhaps_expression here) = ((refl, λ y. tt), (tt, tt))
all_in (expression here) = ((refl, λ y. (refl, λ y. tt)), tt)
all_in (choice_rest here x) =
    ((λ w t. (inside 84 refl w t, (refl, λ y. (λ w t. (inside 85 refl w t, (refl, λ y. tt)))))), (tt, tt))
all_in (operators units here) = ((refl, λ y. tt), tt)
all_in (more_operators units here x) = (tt, tt)
all_in (operators products here) = ((refl, λ y. (refl, λ y. tt)), tt)
all_in (more_operators products here x) =
    ((λ w t. (operator_inside products w t, (refl, λ y. (refl, λ y. tt)))), (tt, tt))
all_in (operators sums here) = ((refl, λ y. (refl, λ y. tt)), tt)
all_in (more_operators sums here x) = ((λ w t. (operator_inside sums w t, (refl, λ y. (refl, λ y. tt)))), (tt, tt))
all_in (operators comparisons here) = ((refl, λ y. (refl, λ y. tt)), tt)
all_in (more_operators comparisons here x) =
    ((λ w t. (operator_inside comparisons w t, (refl, λ y. (refl, λ y. tt)))), (tt, tt))
all_in (operators equalities here) = ((refl, λ y. (refl, λ y. tt)), tt)
all_in (more_operators equalities here x) = ((λ w t. (operator_inside equalities w t, (refl, λ y. tt))), (tt, tt))
all_in (operators conjunctions here) = ((refl, λ y. (refl, λ y. tt)), tt)
all_in (more_operators conjunctions here x) =
    ((λ w t. (operator_inside conjunctions w t, (refl, λ y. (refl, λ y. tt)))), (tt, tt))
all_in (operators disjunctions here) = ((refl, λ y. (refl, λ y. tt)), tt)
all_in (more_operators disjunctions here x) =
    ((λ w t. (operator_inside disjunctions w t, (refl, λ y. (refl, λ y. tt)))), (tt, tt))
all_in (unary here) = each_append (λ p. Avoids left_out p) (e.opening here.levels (e.not_from here)) _
    (each_opening (λ p. Avoids left_out p) here.levels (e.not_from here)
    (λ n. (λ w t. (inside 72 refl w t, (refl, λ y. tt)))))
    (each_append (λ p. Avoids left_out p) (e.opening here.levels (e.minus_from here)) _
    (each_opening (λ p. Avoids left_out p) here.levels (e.minus_from here)
    (λ n. (λ w t. (inside 80 refl w t, (refl, λ y. tt))))) (((refl, λ y. tt), tt)))
all_in (postfix here) = ((refl, λ y. (refl, λ y. tt)), tt)
all_in (more_postfix here x) = (
  (λ w t. (inside 87 refl w t, (λ w t. (inside 0 refl w t, (refl, λ y. (refl, λ y. tt)))))),
  each_append (λ p. Avoids left_out p) (e.opening here.levels (e.index_from here x)) _
      (each_opening (λ p. Avoids left_out p) here.levels (e.index_from here x)
      (λ n. (λ w t. (bracket_inside w t, (refl, λ y. (λ w t. (inside 94 refl w t, (refl, λ y. tt)))))))) ((tt, tt)),
)
all_in (primary here) = (
  (λ w t. (inside 55 refl w t, tt)),
  (
    (λ w t. (inside 56 refl w t, (refl, λ y. (λ w t. (inside 60 refl w t, tt))))),
    (
      (λ w t. (inside 54 refl w t, tt)),
      (
        (λ w t. (inside 12 refl w t, tt)),
        (
          (λ w t. (inside 13 refl w t, tt)),
          (
            (λ w t. (inside 14 refl w t, tt)),
            (
              (λ w t. (inside 11 refl w t, tt)),
              (
                (λ w t. (inside 0 refl w t, (refl, λ y. tt))),
                (
                  (λ w t. (inside 52 refl w t, tt)),
                  (
                    (refl, λ y. tt),
                    each_append (λ p. Avoids left_out p) (e.opening here.levels (e.array_from here)) _
                        (each_opening (λ p. Avoids left_out p) here.levels (e.array_from here)
                        (λ n. (λ w t. (inside 93 refl w t, (refl, λ y. (λ w t. (inside 94 refl w t, tt)))))))
                        (each_append (λ p. Avoids left_out p) (e.opening here.levels (e.hash_from here)) _
                        (each_opening (λ p. Avoids left_out p) here.levels (e.hash_from here)
                        (λ n. (λ w t. (inside 95 refl w t, (refl, λ y. (λ w t. (inside 96 refl w t, tt)))))))
                        (each_opening (λ p. Avoids left_out p) here.levels (e.group_from here)
                        (λ n. (λ w t. (inside 91 refl w t, (refl, λ y. (λ w t. (inside 92 refl w t, tt)))))))),
                  ),
                ),
              ),
            ),
          ),
        ),
      ),
    ),
  ),
)
all_in (name_rest here name) = each_append (λ p. Avoids left_out p) (e.opening here.levels (e.call_from here name)) _
    (each_opening (λ p. Avoids left_out p) here.levels (e.call_from here name)
    (λ n. (λ w t. (paren_inside w t, (refl, λ y. (λ w t. (inside 92 refl w t, tt))))))) ((tt, tt))
all_in (perhaps_arguments here) = each_append (λ p. Avoids left_out p)
    (e.opening here.levels (e.arguments_from here)) _
    (each_opening (λ p. Avoids left_out p) here.levels (e.arguments_from here)
    (λ n. (λ w t. (paren_inside w t, (refl, λ y. (λ w t. (inside 92 refl w t, tt))))))) ((tt, tt))
all_in (members here xs) = ((refl, λ y. (refl, λ y. tt)), (tt, tt))
all_in (more_members here xs) = ((λ w t. (inside 88 refl w t, (refl, λ y. tt))), (tt, tt))
all_in (pairs here xs) = ((refl, λ y. (refl, λ y. tt)), (tt, tt))
all_in (more_pairs here xs) = ((λ w t. (inside 88 refl w t, (refl, λ y. tt))), (tt, tt))
all_in (pair here) = (
  (λ w t. (inside 53 refl w t, (refl, λ y. tt))),
  ((refl, λ y. (λ w t. (inside 90 refl w t, (refl, λ y. tt)))), tt),
)
all_in (text_parts here double parts) = (
  (λ w t. (inside 57 refl w t, (refl, λ y. tt))),
  each_append (λ p. Avoids left_out p)
      (e.opening here.levels (e.inside_from here double parts)) _
      (each_opening (λ p. Avoids left_out p) here.levels (e.inside_from here double parts)
      (λ n. (λ w t. (inside 58 refl w t, (refl, λ y. (λ w t. (inside 59 refl w t, (refl, λ y. tt)))))))) ((tt, tt)),
)

rule_in : (t : Sort) (rule : Rule t) (p : Prod ruby t) → Among p (forms rule) → true ≡ true → Avoids left_out p
rule_in t rule p am h = each_among (λ q. Avoids left_out q) (all_in rule) am

none_left_out : (us : List Word) (w : Word) (vs : List Word) → NoneBad left_out (us ++ w ∷ vs) → is_left_out w ≡ false
none_left_out [] w vs h = h.0
none_left_out (u ∷ us) w vs h = none_left_out us w vs h.1

-- no text begins with words of which the last is left out
pub begins_inside : {t : Sort} (rule : Rule t) (used : List Word) (w : Word) →
    Begins ruby_grammar rule (used ++ w ∷ []) → is_left_out w ≡ false
begins_inside rule used w h =
    let a = avoids ruby_grammar left_out rule_in h.2.2 (refl, λ y. tt) in
    let b = subst (λ l. NoneBad left_out l) (words_append h.0 h.2.0 ∙ ap (λ l. l ++ words h.2.0) h.1
    ∙ append_assoc used (w ∷ []) (words h.2.0)) a in
    none_left_out used w (words h.2.0) b
