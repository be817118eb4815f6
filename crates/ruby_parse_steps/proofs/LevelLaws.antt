-- How an expression of one level is one of a looser level.
use Rattle.std.proofs.Common.{◌≡◌, ℕ, zero, suc, ◌+◌, ◌-◌, ◌<◌, ◌≤◌, true, false, ◌==◌, ◌||◌, List, [], ◌∷◌}
use Rattle.std.proofs.Common.{refl, sym, ap, ◌∙◌, subst, arith, lit<, Result, Ok, Err, nat_lt, ◌&&◌, ⊎_elim}
use Rattle.std.specs.Prelude.{nat_le}
use Rattle.std.proofs.lemmas.Bool.{cases_Bool, or_from, ltb-true, eqb-true, both_ways, and_from}
use Rattle.std.proofs.lemmas.Bool.Decides.{nat_tests}
use Rattle.descent.specs.Reading.{head}
use Rattle.ruby_types.specs.declared.tree.Expr.{Expr}
use Rattle.ruby_grammar.specs.Words.{Word}
use Rattle.ruby_grammar.specs.Terminals.{Level, units, products, sums, comparisons, equalities, conjunctions}
use Rattle.ruby_grammar.specs.Terminals.{disjunctions}
use Rattle.ruby_grammar.specs.Terminals.{tighter, is_operator}
use Rattle.ruby_grammar.specs.Rules.{Scope, operators, more_operators}
use Rattle.ruby_grammar.specs.Choices.{next_is}
use Rattle.ruby_parse_cursor.specs.Views.{head_terminal}
use Rattle.ruby_parse_cursor.specs.declared.fault.Fault.{Fault}
use Rattle.ruby_parse_steps.specs.Gives.{GivesRule}
use Rattle.ruby_parse_steps.specs.Levels.{rank, looser, is_operator_terminal, is_any_operator}
use Rattle.ruby_parse_steps.proofs.OperatorLaws.{operators_begin, operators_break, operators_end}

-- ---- ranks
-- An operand binds tighter than its operators.
pub rank_falls : (level : Level) → (level ≡ units → ⊥) → rank (tighter level) < rank level
rank_falls units n = absurd (n refl)
rank_falls products n = lit< tt
rank_falls sums n = lit< tt
rank_falls comparisons n = lit< tt
rank_falls equalities n = lit< tt
rank_falls conjunctions n = lit< tt
rank_falls disjunctions n = lit< tt

rank_bound : (level : Level) → rank level < 7
rank_bound units = lit< tt
rank_bound products = lit< tt
rank_bound sums = lit< tt
rank_bound comparisons = lit< tt
rank_bound equalities = lit< tt
rank_bound conjunctions = lit< tt
rank_bound disjunctions = lit< tt

rank_rises : (level : Level) → rank level < 6 → rank (looser level) ≡ rank level + 1
rank_rises units h = refl
rank_rises products h = refl
rank_rises sums h = refl
rank_rises comparisons h = refl
rank_rises equalities h = refl
rank_rises conjunctions h = refl
rank_rises disjunctions h = absurd (omega (arith, h))

tighter_looser : (level : Level) → rank level < 6 → tighter (looser level) ≡ level
tighter_looser units h = refl
tighter_looser products h = refl
tighter_looser sums h = refl
tighter_looser comparisons h = refl
tighter_looser equalities h = refl
tighter_looser conjunctions h = refl
tighter_looser disjunctions h = absurd (omega (arith, h))

no_units : (level : Level) → looser level ≡ units → ⊥
no_units units e = cc
no_units products e = cc
no_units sums e = cc
no_units comparisons e = cc
no_units equalities e = cc
no_units conjunctions e = cc
no_units disjunctions e = cc

abbrev of_rank : ℕ → Level
of_rank zero = units
of_rank (suc zero) = products
of_rank (suc (suc zero)) = sums
of_rank (suc (suc (suc zero))) = comparisons
of_rank (suc (suc (suc (suc zero)))) = equalities
of_rank (suc (suc (suc (suc (suc zero))))) = conjunctions
of_rank (suc (suc (suc (suc (suc (suc n)))))) = disjunctions

of_rank-rank : (level : Level) → of_rank (rank level) ≡ level
of_rank-rank units = refl
of_rank-rank products = refl
of_rank-rank sums = refl
of_rank-rank comparisons = refl
of_rank-rank equalities = refl
of_rank-rank conjunctions = refl
of_rank-rank disjunctions = refl

one_rank : (a b : Level) → rank a ≡ rank b → a ≡ b
one_rank a b e = sym (of_rank-rank a) ∙ (ap of_rank e ∙ of_rank-rank b)

equal_from_not_less : (m n : ℕ) → m ≤ n → nat_lt m n ≡ false → m ≡ n
equal_from_not_less m n h e = grind (arith, nat_tests)

-- ---- the terminal of an operator
-- Whether an operator of a level is at hand, by the terminal at hand.
pub operator_at : (level : Level) (ws : List Word) → is_operator_terminal level (head_terminal ws)
    ≡ next_is (is_operator level) (head ws)
operator_at units [] = refl
operator_at products [] = refl
operator_at sums [] = refl
operator_at comparisons [] = refl
operator_at equalities [] = refl
operator_at conjunctions [] = refl
operator_at disjunctions [] = refl
operator_at units (w ∷ ws) = refl
operator_at products (w ∷ ws) = refl
operator_at sums (w ∷ ws) = refl
operator_at comparisons (w ∷ ws) = refl
operator_at equalities (w ∷ ws) = refl
operator_at conjunctions (w ∷ ws) = refl
operator_at disjunctions (w ∷ ws) = refl

no_operator_outside : (n k : ℕ) → nat_le 70 k ≡ true → nat_le k 83 ≡ true → (nat_le 70 n && nat_le n 83) ≡ false →
    (n == k) ≡ false
no_operator_outside n k h g e =
    ⊎_elim (λ y. absurd (both_ways (nat_le 70 k && nat_le k 83)
    (subst (λ (m : ℕ). (nat_le 70 m && nat_le m 83) ≡ false) (eqb-true n k y) e)
    (and_from (nat_le 70 k) (nat_le k 83) h g))) (λ o. o) (cases_Bool (n == k))

no_operator : (level : Level) (n : ℕ) → is_any_operator n ≡ false → is_operator_terminal level n ≡ false
no_operator units n e = refl
no_operator products n e = or_from ((n == 81) || (n == 82)) (n == 83)
    (or_from (n == 81) (n == 82) (no_operator_outside n 81 refl refl e) (no_operator_outside n 82 refl refl e))
    (no_operator_outside n 83 refl refl e)
no_operator sums n e = or_from (n == 79) (n == 80) (no_operator_outside n 79 refl refl e)
    (no_operator_outside n 80 refl refl e)
no_operator comparisons n e =
    or_from ((n == 75) || (n == 76) || (n == 77)) (n == 78)
    (or_from ((n == 75) || (n == 76)) (n == 77)
    (or_from (n == 75) (n == 76) (no_operator_outside n 75 refl refl e) (no_operator_outside n 76 refl refl e))
    (no_operator_outside n 77 refl refl e))
    (no_operator_outside n 78 refl refl e)
no_operator equalities n e = or_from (n == 73) (n == 74) (no_operator_outside n 73 refl refl e)
    (no_operator_outside n 74 refl refl e)
no_operator conjunctions n e = no_operator_outside n 71 refl refl e
no_operator disjunctions n e = no_operator_outside n 70 refl refl e

-- ---- one level more
module _ (here : Scope) where
  -- behind an operand of the next level come its operators
  next_level : (level loosest : Level) (x : Expr) (ws mid rest : List Word) (r : Result Expr Fault) →
      rank level < rank loosest → GivesRule (operators level here) ws (Ok x) mid →
      GivesRule (more_operators (looser level) here x) mid r rest → GivesRule (operators (looser level) here) ws r rest
  next_level level loosest x ws mid rest r h a g =
      operators_begin (looser level) here x ws mid rest r (no_units level)
      (subst (λ l. GivesRule (operators l here) ws (Ok x) mid)
      (sym (tighter_looser level (let b = rank_bound loosest in omega (arith, h, b)))) a) g

  breaks_from : (k : ℕ) (level loosest : Level) (e : Fault) (ws rest : List Word) → rank loosest ≡ k + rank level →
      GivesRule (operators level here) ws (Err e) rest → GivesRule (operators loosest here) ws (Err e) rest
  breaks_from zero level loosest e ws rest q g =
      subst (λ l. GivesRule (operators l here) ws (Err e) rest)
      (one_rank level loosest (let h : rank level ≡ rank loosest = omega (arith, q) in h)) g
  breaks_from (suc k) level loosest e ws rest q g =
      let below : rank level < rank loosest = omega (arith, q) in
      let low : rank level < 6 = (let b = rank_bound loosest in omega (arith, below, b)) in
      let up = rank_rises level low in
      breaks_from k (looser level) loosest e ws rest (omega (arith, q, up))
      (operators_break (looser level) here e ws rest (no_units level)
      (subst (λ l. GivesRule (operators l here) ws (Err e) rest) (sym (tighter_looser level low)) g))

  -- A fault at a level is one at each looser level.
  pub breaks_at_looser : (level loosest : Level) (e : Fault) (ws rest : List Word) → rank level ≤ rank loosest →
      GivesRule (operators level here) ws (Err e) rest → GivesRule (operators loosest here) ws (Err e) rest
  breaks_at_looser level loosest e ws rest h g =
      breaks_from (rank loosest - rank level) level loosest e ws rest (omega (arith, h)) g

  ends_from : (k : ℕ) (level loosest : Level) (x : Expr) (ws rest : List Word) → rank loosest ≡ k + rank level →
      ((l : Level) → next_is (is_operator l) (head rest) ≡ false) →
      GivesRule (operators level here) ws (Ok x) rest → GivesRule (operators loosest here) ws (Ok x) rest
  ends_from zero level loosest x ws rest q n g =
      subst (λ l. GivesRule (operators l here) ws (Ok x) rest)
      (one_rank level loosest (let h : rank level ≡ rank loosest = omega (arith, q) in h)) g
  ends_from (suc k) level loosest x ws rest q n g =
      let below : rank level < rank loosest = omega (arith, q) in
      let low : rank level < 6 = (let b = rank_bound loosest in omega (arith, below, b)) in
      let up = rank_rises level low in
      ends_from k (looser level) loosest x ws rest (omega (arith, q, up)) n
      (next_level level loosest x ws rest rest (Ok x) below g
      (operators_end (looser level) here x rest (n (looser level))))

  -- Where no operator is at hand, an expression of a level is one of each looser level.
  pub ends_at_looser : (level loosest : Level) (x : Expr) (ws rest : List Word) → rank level ≤ rank loosest →
      is_any_operator (head_terminal rest) ≡ false →
      GivesRule (operators level here) ws (Ok x) rest → GivesRule (operators loosest here) ws (Ok x) rest
  ends_at_looser level loosest x ws rest h n g =
      ends_from (rank loosest - rank level) level loosest x ws rest (omega (arith, h))
      (λ l. sym (operator_at l rest) ∙ no_operator l (head_terminal rest) n) g

  -- An expression of a level that isn't tighter than another one is one of that.
  pub ends_at_level : (level loosest : Level) (x : Expr) (ws rest : List Word) → rank level ≤ rank loosest →
      nat_lt (rank level) (rank loosest) ≡ false →
      GivesRule (operators level here) ws (Ok x) rest → GivesRule (operators loosest here) ws (Ok x) rest
  ends_at_level level loosest x ws rest h n g =
      subst (λ l. GivesRule (operators l here) ws (Ok x) rest)
      (one_rank level loosest (equal_from_not_less (rank level) (rank loosest) h n)) g

-- ---- the loop over the levels

-- The next level isn't looser than the loosest one.
pub level_within : (level next loosest : Level) → nat_lt (rank level) (rank loosest) ≡ true → next ≡ looser level →
    rank next ≤ rank loosest
level_within level next loosest h e =
    let b = rank_bound loosest in
    let below = ltb-true (rank level) (rank loosest) h in
    let up = ap rank e ∙ rank_rises level (omega (arith, below, b)) in
    omega (arith, below, up)

-- The levels that are left grow fewer.
pub levels_fall : (level next loosest : Level) → nat_lt (rank level) (rank loosest) ≡ true → next ≡ looser level →
    rank loosest - rank next < rank loosest - rank level
levels_fall level next loosest h e =
    let b = rank_bound loosest in
    let below = ltb-true (rank level) (rank loosest) h in
    let up = ap rank e ∙ rank_rises level (omega (arith, below, b)) in
    omega (arith, below, up)

module _ (here : Scope) (level next loosest : Level) (x : Expr) where
  -- What follows an expression of a level makes one of the next level.
  pub level_reads : (y : Expr) (ws mid rest : List Word) → nat_lt (rank level) (rank loosest) ≡ true →
      next ≡ looser level → GivesRule (operators level here) ws (Ok x) mid →
      GivesRule (more_operators next here x) mid (Ok y) rest → GivesRule (operators next here) ws (Ok y) rest
  level_reads y ws mid rest h e a g =
      subst (λ l. GivesRule (operators l here) ws (Ok y) rest) (sym e)
      (next_level here level loosest x ws mid rest (Ok y) (ltb-true (rank level) (rank loosest) h) a
      (subst (λ l. GivesRule (more_operators l here x) mid (Ok y) rest) e g))

  -- A fault in it is one of the loosest level.
  pub level_breaks : (d : Fault) (ws mid rest : List Word) → nat_lt (rank level) (rank loosest) ≡ true →
      next ≡ looser level → GivesRule (operators level here) ws (Ok x) mid →
      GivesRule (more_operators next here x) mid (Err d) rest → GivesRule (operators loosest here) ws (Err d) rest
  level_breaks d ws mid rest h e a g =
      breaks_at_looser here next loosest d ws rest (level_within level next loosest h e)
      (subst (λ l. GivesRule (operators l here) ws (Err d) rest) (sym e)
      (next_level here level loosest x ws mid rest (Err d) (ltb-true (rank level) (rank loosest) h) a
      (subst (λ l. GivesRule (more_operators l here x) mid (Err d) rest) e g)))
