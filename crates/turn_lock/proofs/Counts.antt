-- Totals over views, places in lists, and numbers modulo 2 ^ 64.
use Rattle.std.proofs.Common.{◌≡◌, ◌≢◌, ◌⊎◌, ℕ, zero, suc, ◌+◌, ◌*◌, ◌/◌, ◌%◌, ◌≤◌, List, [], ◌∷◌, ◌++◌, length, set}
use Rattle.std.proofs.Common.{Some, None, Option, Bool, true, false, refl, sym, ap, ◌∙◌, subst, ⊎_elim, inl, inr, arith}
use Rattle.std.proofs.Common.{div-add-mod'}
use native.Mathlib.Nat.{add-mul-mod_self_right}
use mathlib.Core.Option.{some, some-ne-none, some-injective}
use lib.ListN.{get_elem?}
use Rattle.atomic_table.proofs.Lists.{at_set}
use Rattle.turn_lock.specs.Rule.{total, count_some, count_true}

-- a counter of 64 bits that wraps has the next number modulo 2 ^ 64 after each step
pub mod_step : (n : ℕ) → (n % 18446744073709551616 + 1) % 18446744073709551616 ≡ (n + 1) % 18446744073709551616
mod_step n =
    let q : ℕ = n / 18446744073709551616 in
    let r : ℕ = n % 18446744073709551616 in
    let whole : (r + 1) + q * 18446744073709551616 ≡ n + 1 = omega (arith, div-add-mod' n 18446744073709551616) in
    sym (add-mul-mod_self_right (r + 1) q 18446744073709551616) ∙ ap (λ (x : ℕ). x % 18446744073709551616) whole

module _ {A : Type 0} (f : A → ℕ) where
  -- the sum after one member was replaced
  pub total_set : (l : List A) (i : ℕ) (a b : A) → get_elem? l i ≡ some a → total f (set l i b) + f a ≡ total f l + f b
  total_set [] i a b e = absurd (some-ne-none a (sym e))
  total_set (x ∷ xs) zero a b e = let h : f x ≡ f a = ap f (some-injective x a e) in omega arith
  total_set (x ∷ xs) (suc i) a b e = let h = total_set xs i a b e in omega arith

  -- the sum with one member more
  pub total_snoc : (l : List A) (a : A) → total f (l ++ a ∷ []) ≡ total f l + f a
  total_snoc [] a = omega arith
  total_snoc (x ∷ xs) a = let h = total_snoc xs a in omega arith

  -- a sum of smaller parts is smaller
  pub total_le : (g : A → ℕ) (l : List A) → ((i : ℕ) (a : A) → get_elem? l i ≡ some a → f a ≤ g a) →
      total f l ≤ total g l
  total_le g [] h = omega arith
  total_le g (x ∷ xs) h = let a : f x ≤ g x = h 0 x refl in let b = total_le g xs (λ i a e. h (suc i) a e) in
      omega arith

-- a view with a ticket is live
pub ticket_le_live : (l : Bool) (t : Option ℕ) → (l ≡ false → t ≡ None) → count_some t ≤ count_true l
ticket_le_live true (Some t) h = omega arith
ticket_le_live true None h = omega arith
ticket_le_live false (Some t) h = let e = h refl in absurd (cc)
ticket_le_live false None h = omega arith

module _ {A : Type 0} where
  -- what holds of each view holds still after one view was replaced by one of which it holds
  pub views_stay : (P : ℕ → A → Type 0) (vs : List A) (me : ℕ) (w : A) → P me w →
      ((j : ℕ) (d : A) → j ≢ me → get_elem? vs j ≡ some d → P j d)
      → (j : ℕ) (d : A) → get_elem? (set vs me w) j ≡ some d → P j d
  views_stay P vs me w mine others j d e =
      ⊎_elim (λ (t : (j ≡ me) × (w ≡ d)). subst (λ (x : ℕ × A). P x.0 x.1) (λ i. (sym t.0 i, t.1 i)) mine)
      (λ (t : (j ≢ me) × (get_elem? vs j ≡ some d)). others j d t.0 t.1) (at_set vs me j w d e)

module _ {A : Type 0} where
  -- a member of a list with one more is a member of the list, or the new one
  pub at_snoc_is : (l : List A) (a b : A) (j : ℕ) → get_elem? (l ++ a ∷ []) j ≡ some b → (get_elem? l j ≡ some b)
      ⊎ ((j ≡ length l) × (a ≡ b))
  at_snoc_is [] a b zero e = inr (refl, some-injective a b e)
  at_snoc_is [] a b (suc j) e = absurd (some-ne-none b (sym e))
  at_snoc_is (x ∷ xs) a b zero e = inl e
  at_snoc_is (x ∷ xs) a b (suc j) e = ⊎_elim (λ t. inl t) (λ (t : (j ≡ length xs) × (a ≡ b)). inr (ap suc t.0, t.1))
      (at_snoc_is xs a b j e)
