-- No `=` stands in an expression.
use Rattle.std.proofs.Common.{◌≡◌, Bool, true, false, ◌&&◌, List, [], ◌∷◌, ◌++◌, Option, Some, None, refl, sym, subst}
use Rattle.descent.specs.Grammar.{Prod, Among}
use Rattle.descent.specs.Reading.{take, choose, head}
use Rattle.descent.proofs.Starts.{starts}
use Rattle.descent.proofs.Avoids.{Avoided, Avoids, NoneBad, avoids}
use Rattle.ruby_grammar.specs.Words.{Word}
use Rattle.ruby_grammar.specs.Terminals.{units, products, sums, comparisons, equalities, conjunctions, disjunctions}
use Rattle.ruby_grammar.specs.Terminals.{is_operator, is_ask, is_colon, is_path, is_dot, is_comma, is_const, is_ivar}
use Rattle.ruby_grammar.specs.Terminals.{is_variable, is_assign, is_name, is_label, is_arrow, is_close_paren}
use Rattle.ruby_grammar.specs.Terminals.{is_close_bracket, is_close_brace, is_text_open, is_text_close, is_text_piece}
use Rattle.ruby_grammar.specs.Terminals.{is_inside_open, is_inside_close, is_tight_paren, is_tight_bracket}
use Rattle.ruby_grammar.specs.Terminals.{is_open_bracket}
use Rattle.ruby_grammar.specs.Terminals.{is_open_paren, is_open_brace, is_not, is_minus, is_int, is_sym, is_nil}
use Rattle.ruby_grammar.specs.Terminals.{is_true}
use Rattle.ruby_grammar.specs.Terminals.{is_false, is_self, is_return, is_raise}
use Rattle.ruby_grammar.specs.Rules.{ruby, Sort, Rule, Around, file, definitions, more_definitions, definition}
use Rattle.ruby_grammar.specs.Rules.{path_rest, parent, constant, heading, parameter_list, parameters, more_parameters}
use Rattle.ruby_grammar.specs.Rules.{opened_path}
use Rattle.ruby_grammar.specs.Rules.{more_readers, statements, more_statements, statement, simple_statement}
use Rattle.ruby_grammar.specs.Rules.{condition_behind, then_or_line, perhaps_line, arms_rest, perhaps_expression}
use Rattle.ruby_grammar.specs.Rules.{expression, choice_rest, operators, more_operators, unary, postfix, more_postfix}
use Rattle.ruby_grammar.specs.Rules.{primary, name_rest, perhaps_arguments, members, more_members, pairs, more_pairs}
use Rattle.ruby_grammar.specs.Rules.{pair, text_parts}
use Rattle.ruby_grammar.specs.Language.{forms, ruby_grammar}
use Rattle.ruby_grammar.specs.Choices.{next_is, pick, ruby_choices, starts_expression}
use Rattle.ruby_grammar.specs.Follow.{ends_simple}
use Rattle.ruby_grammar.specs.Expressions as e
use Rattle.ruby_grammar.specs.Statements as s
use Rattle.ruby_grammar.proofs.Tools.{Each, each_among, each_append, each_opening, terminal_is}
use Rattle.ruby_grammar.proofs.First.{ruby_firsts, starts_law}
use Rattle.ruby_grammar.proofs.Fits.{unless_terminal, simple_cases}
use Rattle.ruby_grammar.proofs.Choosing.{EvaluatingChosen}

abbrev is_clean : {t : Sort} → Rule t → Bool
is_clean (constant ending) = true
is_clean (path_rest more ending names) = true
is_clean (expression here) = true
is_clean (choice_rest here x) = true
is_clean (operators level here) = true
is_clean (more_operators level here x) = true
is_clean (unary here) = true
is_clean (postfix here) = true
is_clean (more_postfix here x) = true
is_clean (primary here) = true
is_clean (name_rest here name) = true
is_clean (perhaps_arguments here) = true
is_clean (members here xs) = true
is_clean (more_members here xs) = true
is_clean (pairs here xs) = true
is_clean (more_pairs here xs) = true
is_clean (pair here) = true
is_clean (text_parts here double parts) = true
is_clean _ = false

abbrev no_assign : Avoided ruby
no_assign = record { bad = is_assign; clean = is_clean }

clean_forms : {t : Sort} (rule : Rule t) → is_clean rule ≡ true → Each (λ p. Avoids no_assign p) (forms rule)
clean_forms (expression here) h = ((refl, λ y. (refl, λ z. tt)), tt)
clean_forms (choice_rest here x) h = (
  λ w t. (
    unless_terminal 89 is_ask is_assign w (terminal_is 89 w) (λ e. rw e refl) t,
    (
      refl,
      λ y. λ w t. (
        unless_terminal 89 is_colon is_assign w (terminal_is 89 w) (λ e. rw e refl) t,
        (refl, λ z. tt),
      ),
    ),
  ),
  (tt, tt),
)
clean_forms (operators units here) h = ((refl, λ y. tt), tt)
clean_forms (operators products here) h = ((refl, λ y. (refl, λ z. tt)), tt)
clean_forms (operators sums here) h = ((refl, λ y. (refl, λ z. tt)), tt)
clean_forms (operators comparisons here) h = ((refl, λ y. (refl, λ z. tt)), tt)
clean_forms (operators equalities here) h = ((refl, λ y. (refl, λ z. tt)), tt)
clean_forms (operators conjunctions here) h = ((refl, λ y. (refl, λ z. tt)), tt)
clean_forms (operators disjunctions here) h = ((refl, λ y. (refl, λ z. tt)), tt)
clean_forms (more_operators units here x) h = (tt, tt)
clean_forms (more_operators products here x) h = (
  λ w t. (
    unless_terminal 89 (is_operator products) is_assign w (terminal_is 89 w) (λ e. rw e refl) t,
    (refl, λ y. (refl, λ z. tt)),
  ),
  (tt, tt),
)
clean_forms (more_operators sums here x) h = (
  λ w t. (
    unless_terminal 89 (is_operator sums) is_assign w (terminal_is 89 w) (λ e. rw e refl) t,
    (refl, λ y. (refl, λ z. tt)),
  ),
  (tt, tt),
)
clean_forms (more_operators comparisons here x) h = (
  λ w t. (
    unless_terminal 89 (is_operator comparisons) is_assign w (terminal_is 89 w) (λ e. rw e refl) t,
    (refl, λ y. (refl, λ z. tt)),
  ),
  (tt, tt),
)
clean_forms (more_operators equalities here x) h = (
  λ w t. (
    unless_terminal 89 (is_operator equalities) is_assign w (terminal_is 89 w) (λ e. rw e refl) t,
    (refl, λ y. tt),
  ),
  (tt, tt),
)
clean_forms (more_operators conjunctions here x) h = (
  λ w t. (
    unless_terminal 89 (is_operator conjunctions) is_assign w (terminal_is 89 w) (λ e. rw e refl) t,
    (refl, λ y. (refl, λ z. tt)),
  ),
  (tt, tt),
)
clean_forms (more_operators disjunctions here x) h = (
  λ w t. (
    unless_terminal 89 (is_operator disjunctions) is_assign w (terminal_is 89 w) (λ e. rw e refl) t,
    (refl, λ y. (refl, λ z. tt)),
  ),
  (tt, tt),
)
clean_forms (unary here) h = each_append (λ p. Avoids no_assign p) (e.opening here.levels (e.not_from here)) _
    (each_opening (λ p. Avoids no_assign p) here.levels (e.not_from here)
    (λ n. λ w t. (unless_terminal 89 is_not is_assign w (terminal_is 89 w) (λ e. rw e refl) t, (refl, λ y. tt))))
    (each_append (λ p. Avoids no_assign p) (e.opening here.levels (e.minus_from here)) _
    (each_opening (λ p. Avoids no_assign p) here.levels (e.minus_from here)
    (λ n. λ w t. (unless_terminal 89 is_minus is_assign w (terminal_is 89 w) (λ e. rw e refl) t, (refl, λ y. tt))))
    (((refl, λ y. tt), tt)))
clean_forms (postfix here) h = ((refl, λ y. (refl, λ z. tt)), tt)
clean_forms (more_postfix here x) h = (
  λ w t. (
    unless_terminal 89 is_dot is_assign w (terminal_is 89 w) (λ e. rw e refl) t,
    λ w t.
        (unless_terminal 89 is_name is_assign w (terminal_is 89 w) (λ e. rw e refl) t, (refl, λ y. (refl, λ z. tt))),
  ),
  each_append (λ p. Avoids no_assign p) (e.opening here.levels (e.index_from here x)) _
      (each_opening (λ p. Avoids no_assign p) here.levels (e.index_from here x)
      (λ n. λ w t. (
        unless_terminal 89 is_tight_bracket is_assign w (terminal_is 89 w) (λ e. rw e refl) t,
        (
          refl,
          λ y. λ w t. (
            unless_terminal 89 is_close_bracket is_assign w (terminal_is 89 w) (λ e. rw e refl) t,
            (refl, λ z. tt),
          ),
        ),
      ))) ((tt, tt)),
)
clean_forms (primary here) h = (
  λ w t. (unless_terminal 89 is_int is_assign w (terminal_is 89 w) (λ e. rw e refl) t, tt),
  (
    λ w t. (
      unless_terminal 89 is_text_open is_assign w (terminal_is 89 w) (λ e. rw e refl) t,
      (refl, λ y. λ w t. (unless_terminal 89 is_text_close is_assign w (terminal_is 89 w) (λ e. rw e refl) t, tt)),
    ),
    (
      λ w t. (unless_terminal 89 is_sym is_assign w (terminal_is 89 w) (λ e. rw e refl) t, tt),
      (
        λ w t. (unless_terminal 89 is_nil is_assign w (terminal_is 89 w) (λ e. rw e refl) t, tt),
        (
          λ w t. (unless_terminal 89 is_true is_assign w (terminal_is 89 w) (λ e. rw e refl) t, tt),
          (
            λ w t. (unless_terminal 89 is_false is_assign w (terminal_is 89 w) (λ e. rw e refl) t, tt),
            (
              λ w t. (unless_terminal 89 is_self is_assign w (terminal_is 89 w) (λ e. rw e refl) t, tt),
              (
                λ w t. (unless_terminal 89 is_name is_assign w (terminal_is 89 w) (λ e. rw e refl) t, (refl, λ y. tt)),
                (
                  λ w t. (unless_terminal 89 is_ivar is_assign w (terminal_is 89 w) (λ e. rw e refl) t, tt),
                  (
                    (refl, λ y. tt),
                    each_append (λ p. Avoids no_assign p) (e.opening here.levels (e.array_from here)) _
                        (each_opening (λ p. Avoids no_assign p) here.levels (e.array_from here)
                        (λ n. λ w t. (
                          unless_terminal 89 is_open_bracket is_assign w (terminal_is 89 w) (λ e. rw e refl) t,
                          (
                            refl,
                            λ y. λ w t. (
                              unless_terminal 89 is_close_bracket is_assign w (terminal_is 89 w)
                                  (λ e. rw e refl) t,
                              tt,
                            ),
                          ),
                        )))
                        (each_append (λ p. Avoids no_assign p) (e.opening here.levels (e.hash_from here)) _
                        (each_opening (λ p. Avoids no_assign p) here.levels (e.hash_from here)
                        (λ n. λ w t. (
                          unless_terminal 89 is_open_brace is_assign w (terminal_is 89 w) (λ e. rw e refl) t,
                          (
                            refl,
                            λ y. λ w t. (
                              unless_terminal 89 is_close_brace is_assign w (terminal_is 89 w)
                                  (λ e. rw e refl) t,
                              tt,
                            ),
                          ),
                        )))
                        (each_opening (λ p. Avoids no_assign p) here.levels (e.group_from here)
                        (λ n. λ w t. (
                          unless_terminal 89 is_open_paren is_assign w (terminal_is 89 w) (λ e. rw e refl) t,
                          (
                            refl,
                            λ y. λ w t. (
                              unless_terminal 89 is_close_paren is_assign w (terminal_is 89 w)
                                  (λ e. rw e refl) t,
                              tt,
                            ),
                          ),
                        )))),
                  ),
                ),
              ),
            ),
          ),
        ),
      ),
    ),
  ),
)
clean_forms (name_rest here name) h = each_append (λ p. Avoids no_assign p)
    (e.opening here.levels (e.call_from here name)) _
    (each_opening (λ p. Avoids no_assign p) here.levels (e.call_from here name)
    (λ n. λ w t. (
      unless_terminal 89 is_tight_paren is_assign w (terminal_is 89 w) (λ e. rw e refl) t,
      (refl, λ y. λ w t. (unless_terminal 89 is_close_paren is_assign w (terminal_is 89 w) (λ e. rw e refl) t, tt)),
    ))) ((tt, tt))
clean_forms (perhaps_arguments here) h = each_append (λ p. Avoids no_assign p)
    (e.opening here.levels (e.arguments_from here)) _
    (each_opening (λ p. Avoids no_assign p) here.levels (e.arguments_from here)
    (λ n. λ w t. (
      unless_terminal 89 is_tight_paren is_assign w (terminal_is 89 w) (λ e. rw e refl) t,
      (refl, λ y. λ w t. (unless_terminal 89 is_close_paren is_assign w (terminal_is 89 w) (λ e. rw e refl) t, tt)),
    ))) ((tt, tt))
clean_forms (members here xs) h = ((refl, λ y. (refl, λ z. tt)), (tt, tt))
clean_forms (pairs here xs) h = ((refl, λ y. (refl, λ z. tt)), (tt, tt))
clean_forms (more_members here xs) h =
    (λ w t. (unless_terminal 89 is_comma is_assign w (terminal_is 89 w) (λ e. rw e refl) t, (refl, λ y. tt)), (tt, tt))
clean_forms (more_pairs here xs) h =
    (λ w t. (unless_terminal 89 is_comma is_assign w (terminal_is 89 w) (λ e. rw e refl) t, (refl, λ y. tt)), (tt, tt))
clean_forms (pair here) h = (
  λ w t. (unless_terminal 89 is_label is_assign w (terminal_is 89 w) (λ e. rw e refl) t, (refl, λ y. tt)),
  (
    (
      refl,
      λ x. λ w t. (
        unless_terminal 89 is_arrow is_assign w (terminal_is 89 w) (λ e. rw e refl) t,
        (refl, λ y. tt),
      ),
    ),
    tt,
  ),
)
clean_forms (text_parts here double parts) h = (
  λ w t. (unless_terminal 89 is_text_piece is_assign w (terminal_is 89 w) (λ e. rw e refl) t, (refl, λ y. tt)),
  each_append (λ p. Avoids no_assign p) (e.opening here.levels (e.inside_from here double parts)) _
      (each_opening (λ p. Avoids no_assign p) here.levels (e.inside_from here double parts)
      (λ n. λ w t. (
        unless_terminal 89 is_inside_open is_assign w (terminal_is 89 w) (λ e. rw e refl) t,
        (
          refl,
          λ y. λ w t. (
            unless_terminal 89 is_inside_close is_assign w (terminal_is 89 w) (λ e. rw e refl) t,
            (refl, λ z. tt),
          ),
        ),
      ))) ((tt, tt)),
)
clean_forms (constant ending) h = (
  λ w t. (
    unless_terminal 89 is_path is_assign w (terminal_is 89 w) (λ e. rw e refl) t,
    λ w t.
        (unless_terminal 89 is_const is_assign w (terminal_is 89 w) (λ e. rw e refl) t, (refl, λ y. tt)),
  ),
  (λ w t. (unless_terminal 89 is_const is_assign w (terminal_is 89 w) (λ e. rw e refl) t, (refl, λ y. tt)), tt),
)
clean_forms (path_rest true None names) h = (
  λ w t. (
    unless_terminal 89 is_path is_assign w (terminal_is 89 w) (λ e. rw e refl) t,
    λ w t.
        (unless_terminal 89 is_const is_assign w (terminal_is 89 w) (λ e. rw e refl) t, (refl, λ y. tt)),
  ),
  (tt, tt),
)
clean_forms (path_rest false None names) h = (tt, tt)
clean_forms (path_rest true (Some m) names) h = (
  λ w t. (
    unless_terminal 89 is_path is_assign w (terminal_is 89 w) (λ e. rw e refl) t,
    λ w t.
        (unless_terminal 89 is_const is_assign w (terminal_is 89 w) (λ e. rw e refl) t, (refl, λ y. tt)),
  ),
  (tt, tt),
)
clean_forms (path_rest false (Some m) names) h = (tt, tt)
clean_forms (file levels anywhere) h = cc
clean_forms (definitions here ds) h = cc
clean_forms (more_definitions here ds) h = cc
clean_forms (definition here) h = cc
clean_forms (opened_path more how names) h = cc
clean_forms (parent path at) h = cc
clean_forms (heading path) h = cc
clean_forms (parameter_list levels) h = cc
clean_forms parameters h = cc
clean_forms (more_parameters names) h = cc
clean_forms (more_readers path names) h = cc
clean_forms (statements here ss) h = cc
clean_forms (more_statements here ss) h = cc
clean_forms (statement here) h = cc
clean_forms (simple_statement here) h = cc
clean_forms (condition_behind levels t) h = cc
clean_forms then_or_line h = cc
clean_forms perhaps_line h = cc
clean_forms (arms_rest levels sets may_elsif arms b) h = cc
clean_forms (perhaps_expression here) h = cc

clean_rule : (t : Sort) (rule : Rule t) (p : Prod ruby t) → Among p (forms rule) → is_clean rule ≡ true →
    Avoids no_assign p
clean_rule t rule p am h = each_among (λ q. Avoids no_assign q) (clean_forms rule h) am

-- the word behind the first one
next_assign : (w : Word) (others rest : List Word) → NoneBad no_assign (w ∷ others) →
    next_is ends_simple (head rest) ≡ true → next_is is_assign (head (others ++ rest)) ≡ false
next_assign w [] [] h k = refl
next_assign w [] (v ∷ rest) h k = simple_cases v (is_assign v ≡ false) (λ e. rw e refl) (λ e. rw e refl)
    (λ e. rw e refl) (λ e. rw e refl) (λ e. rw e refl) (λ e. rw e refl) k
next_assign w (v ∷ others) rest h k = h.1.0

-- an expression is chosen, where no `=` is next
chosen_expression : (here : Around) (w : Word) (b : Option Word) → starts_expression w ≡ true →
    next_is is_assign b ≡ false → pick (simple_statement here) (Some w) b ≡ take (s.evaluating here)
chosen_expression here w b h k =
    let r = unless_terminal 10 starts_expression is_return w (terminal_is 10 w) (λ e. rw e refl) h in
    let q = unless_terminal 15 starts_expression is_raise w (terminal_is 15 w) (λ e. rw e refl) h in
    rw (r, q, k, and_no (is_variable w), and_no (is_ivar w)) refl
  where
    and_no : (a : Bool) → (a && false) ≡ false
    and_no true = refl
    and_no false = refl

-- an expression has no `=`, so as a statement it is chosen, and never taken for an assignment
pub evaluating_chosen : EvaluatingChosen
evaluating_chosen here ts x rest a h =
    let b = starts ruby_grammar ruby_firsts (λ t. starts_law) starts_expression a (refl, λ w k. k) in
    let g = avoids ruby_grammar no_assign clean_rule a (refl, λ y. tt) in
    let g' = subst (λ l. NoneBad no_assign l) b.spelled g in
    subst (λ l. choose ruby_choices (simple_statement here) (l ++ rest) ≡ take (s.evaluating here)) (sym b.spelled)
    (chosen_expression here b.word_at (head (b.others ++ rest)) b.passes (next_assign b.word_at b.others rest g' h))
