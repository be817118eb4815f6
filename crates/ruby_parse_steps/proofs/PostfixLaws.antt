-- How calls, indexes and arguments are read behind an expression.
use Rattle.std.proofs.Common.{◌≡◌, ℕ, suc, true, false, cond, List, [], ◌∷◌, drop, refl, sym, ap, ◌∙◌, subst}
use Rattle.std.proofs.Common.{Result, Ok, Err, Some, codes}
use Rattle.std.proofs.Common.{◌==◌}
use Rattle.std.proofs.lemmas.Bool.{and_parts, eqb-true}
use Rattle.descent.specs.Grammar.{give}
use Rattle.descent.specs.Reading.{take, head, choose}
use Rattle.ruby_types.specs.declared.tree.Expr.{Expr}
use Rattle.ruby_types.specs.declared.tree.Expr.TheVariants as expr
use Rattle.ruby_grammar.specs.Words.{Word}
use Rattle.ruby_grammar.specs.Terminals.{is_dot, is_name, is_tight_bracket, is_close_bracket}
use Rattle.ruby_grammar.specs.Rules.{Scope, an_expression, postfix, more_postfix, primary, perhaps_arguments}
use Rattle.ruby_grammar.specs.Rules.{expression}
use Rattle.ruby_grammar.specs.Expressions.{at_levels, postfix_from, method_call, index_from}
use Rattle.ruby_grammar.specs.Choices.{ruby_choices, next_is, deepen}
use Rattle.ruby_parse_cursor.specs.declared.fault.Fault.{Fault}
use Rattle.ruby_parse_cursor.specs.declared.fault.Fault.TheVariants as f
use Rattle.ruby_parse_steps.specs.Gives.{GivesRule, GivesMore}
use Rattle.ruby_parse_steps.proofs.Descent.{g_give, g_chosen, g_word, g_skip, g_lacks, g_then, g_fails, g_deep}

-- ---- the primary
-- A primary, and what follows it.
pub postfix_begins : (here : Scope) (x : Expr) (ws mid rest : List Word) (r : Result Expr Fault) →
    GivesRule (primary here) ws (Ok x) mid → GivesRule (more_postfix here x) mid r rest →
    GivesRule (postfix here) ws r rest
postfix_begins here x ws mid rest r a g = g_chosen {s = an_expression} (postfix here)
    (postfix_from here) ws rest r refl (g_then {s = an_expression} (primary here) _ x ws mid rest r a g)

-- A fault in a primary.
pub postfix_breaks : (here : Scope) (e : Fault) (ws rest : List Word) → GivesRule (primary here) ws (Err e) rest →
    GivesRule (postfix here) ws (Err e) rest
postfix_breaks here e ws rest a = g_chosen {s = an_expression} (postfix here) (postfix_from here) ws rest
    (Err e) refl (g_fails {s = an_expression} (primary here) _ ws rest e a)

module _ (here : Scope) (x : Expr) (ws : List Word) where
  dot_chosen : next_is is_dot (head ws) ≡ true → choose ruby_choices (more_postfix here x) ws
      ≡ take (method_call here x)
  dot_chosen p = ap (λ b. cond b (take (method_call here x))
      (cond (next_is is_tight_bracket (head ws)) (deepen here.levels (index_from here x)) (take (give x)))) p

  index_chosen : next_is is_dot (head ws) ≡ false → next_is is_tight_bracket (head ws) ≡ true →
      choose ruby_choices (more_postfix here x) ws ≡ deepen here.levels (index_from here x)
  index_chosen p q =
      ap (λ b. cond b (take (method_call here x))
      (cond (next_is is_tight_bracket (head ws)) (deepen here.levels (index_from here x)) (take (give x)))) p
      ∙ ap (λ b. cond b (deepen here.levels (index_from here x)) (take (give x))) q

  end_chosen : next_is is_dot (head ws) ≡ false → next_is is_tight_bracket (head ws) ≡ false →
      choose ruby_choices (more_postfix here x) ws ≡ take (give x)
  end_chosen p q =
      ap (λ b. cond b (take (method_call here x))
      (cond (next_is is_tight_bracket (head ws)) (deepen here.levels (index_from here x)) (take (give x)))) p
      ∙ ap (λ b. cond b (deepen here.levels (index_from here x)) (take (give x))) q

  -- Neither a call nor an index follows, so the expression is whole.
  pub postfix_ends : next_is is_dot (head ws) ≡ false → next_is is_tight_bracket (head ws) ≡ false →
      GivesRule (more_postfix here x) ws (Ok x) ws
  postfix_ends p q = g_chosen {s = an_expression} (more_postfix here x) (give x) ws ws (Ok x) (end_chosen p q)
      (g_give {s = an_expression} x ws)

  -- ---- `.name(..)`
  -- A call of a method, and what follows it.
  pub member_reads : (w : Word) (args : List Expr) (y : Expr) (mid behind rest : List Word) →
      next_is is_dot (head ws) ≡ true → mid ≡ drop 1 ws → mid ≡ w ∷ behind → is_name w ≡ true →
      GivesRule (perhaps_arguments here) behind (Ok args) rest → y ≡ expr.Call (Some x) w.text args →
      GivesMore (more_postfix here) x ws (Ok y) rest
  member_reads w args y mid behind rest p d m n a e = λ r end k.
      g_chosen {s = an_expression} (more_postfix here x) (method_call here x) ws end r (dot_chosen p)
      (g_skip {s = an_expression} is_dot _ ws mid end r p d
      (λ _. g_word {s = an_expression} is_name _ w mid behind end r m n
      (g_then {s = an_expression} (perhaps_arguments here) _ args behind rest end r a
      (subst (λ z. GivesRule (more_postfix here z) rest r end) e k))))

  -- The name behind a dot lacks.
  pub member_lacks_name : (mid : List Word) → next_is is_dot (head ws) ≡ true → mid ≡ drop 1 ws →
      next_is is_name (head mid) ≡ false → GivesRule (more_postfix here x) ws (Err f.Unexpected) mid
  member_lacks_name mid p d n =
      g_chosen {s = an_expression} (more_postfix here x) (method_call here x) ws mid (Err f.Unexpected) (dot_chosen p)
      (g_skip {s = an_expression} is_dot _ ws mid mid (Err f.Unexpected) p d
      (λ _. g_lacks {s = an_expression} is_name _ mid n))

  -- A fault in the arguments of a method.
  pub member_breaks : (w : Word) (d : Fault) (mid behind rest : List Word) → next_is is_dot (head ws) ≡ true →
      mid ≡ drop 1 ws → mid ≡ w ∷ behind → is_name w ≡ true →
      GivesRule (perhaps_arguments here) behind (Err d) rest → GivesRule (more_postfix here x) ws (Err d) rest
  member_breaks w e mid behind rest p d m n a =
      g_chosen {s = an_expression} (more_postfix here x) (method_call here x) ws rest (Err e) (dot_chosen p)
      (g_skip {s = an_expression} is_dot _ ws mid rest (Err e) p d
      (λ _. g_word {s = an_expression} is_name _ w mid behind rest (Err e) m n
      (g_fails {s = an_expression} (perhaps_arguments here) _ behind rest e a)))

-- a word that is no `.`, where it is a `[`
tight_is_no_dot : (ws : List Word) → next_is is_tight_bracket (head ws) ≡ true → next_is is_dot (head ws) ≡ false
tight_is_no_dot [] p = refl
tight_is_no_dot (w ∷ ws) p = let q = and_parts _ _ p in let s = eqb-true _ 93 q.0 in
    subst (λ n. (n == 87) ≡ false) (sym s) refl

-- ---- `[..]`
-- No level is left for an index.
pub index_deep : (here : Scope) (x : Expr) (ws : List Word) → next_is is_tight_bracket (head ws) ≡ true →
    here.levels ≡ 0 → GivesRule (more_postfix here x) ws (Err f.Deep) ws
index_deep here x ws p e = g_deep {s = an_expression} (more_postfix here x) ws
    (index_chosen here x ws (tight_is_no_dot ws p) p ∙ ap (λ n. deepen n (index_from here x)) e)

module _ (here inner : Scope) (n : ℕ) (x : Expr) (ws mid : List Word) (p : next_is is_tight_bracket (head ws) ≡ true)
    (l : here.levels ≡ suc n) (i : inner ≡ at_levels here n) (d : mid ≡ drop 1 ws) where
  chosen_index : choose ruby_choices (more_postfix here x) ws ≡ take (index_from here x n)
  chosen_index = index_chosen here x ws (tight_is_no_dot ws p) p ∙ ap (λ n. deepen n (index_from here x)) l

  inside : (r : Result Expr Fault) (rest : List Word) → GivesRule (expression inner) mid r rest →
      GivesRule (expression (at_levels here n)) mid r rest
  inside r rest g = subst (λ s. GivesRule (expression s) mid r rest) i g

  -- An index, and what follows it.
  pub index_reads : (b y : Expr) (behind rest : List Word) → GivesRule (expression inner) mid (Ok b) behind →
      next_is is_close_bracket (head behind) ≡ true → rest ≡ drop 1 behind →
      y ≡ expr.Call (Some x) (codes "[]") (b ∷ []) →
      GivesMore (more_postfix here) x ws (Ok y) rest
  index_reads b y behind rest a c q e = λ r end k.
      g_chosen {s = an_expression} (more_postfix here x) (index_from here x n) ws end r chosen_index
      (g_skip {s = an_expression} is_tight_bracket _ ws mid end r p d
      (λ _. g_then {s = an_expression} (expression (at_levels here n)) _ b mid behind end r (inside (Ok b) behind a)
      (g_skip {s = an_expression} is_close_bracket _ behind rest end r c q
      (λ _. subst (λ z. GivesRule (more_postfix here z) rest r end) e k))))

  -- A fault in an index.
  pub index_breaks : (e : Fault) (rest : List Word) → GivesRule (expression inner) mid (Err e) rest →
      GivesRule (more_postfix here x) ws (Err e) rest
  index_breaks e rest a =
      g_chosen {s = an_expression} (more_postfix here x) (index_from here x n) ws rest (Err e) chosen_index
      (g_skip {s = an_expression} is_tight_bracket _ ws mid rest (Err e) p d
      (λ _. g_fails {s = an_expression} (expression (at_levels here n)) _ mid rest e (inside (Err e) rest a)))

  -- The closing bracket of an index lacks.
  pub index_lacks_close : (b : Expr) (behind : List Word) → GivesRule (expression inner) mid (Ok b) behind →
      next_is is_close_bracket (head behind) ≡ false → GivesRule (more_postfix here x) ws (Err f.Unexpected) behind
  index_lacks_close b behind a c =
      g_chosen {s = an_expression} (more_postfix here x) (index_from here x n) ws behind (Err f.Unexpected) chosen_index
      (g_skip {s = an_expression} is_tight_bracket _ ws mid behind (Err f.Unexpected) p d
      (λ _. g_then {s = an_expression} (expression (at_levels here n)) _ b mid behind behind (Err f.Unexpected)
      (inside (Ok b) behind a) (g_lacks {s = an_expression} is_close_bracket _ behind c)))
