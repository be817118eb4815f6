-- What holds of each member of a list holds of each member of its parts.
use Rattle.std.proofs.Common.{◌≡◌, ℕ, zero, suc, Bool, true, false, cond, List, [], ◌∷◌, Some, sym, subst}
use Rattle.std.proofs.Common.{take, drop, slice_get}
use Rattle.std.specs.Prelude.{filter, reverse}
use Rattle.std.proofs.lemmas.List.{reverse-append}
use Rattle.std.proofs.lemmas.Option.{none-some, same_Some}
use Rattle.program_places.specs.Tasks.{EachIs}
use Rattle.program_values.proofs.Values.{each_of_both}

module _ {A : Type 0} (P : A → Type 0) where
  -- of the first members
  pub each_of_first : (n : ℕ) (xs : List A) → EachIs P xs → EachIs P (take n xs)
  each_of_first zero xs each = tt
  each_of_first (suc n) [] each = tt
  each_of_first (suc n) (x ∷ xs) each = (each.0, each_of_first n xs each.1)

  -- of those behind them
  pub each_of_rest : (n : ℕ) (xs : List A) → EachIs P xs → EachIs P (drop n xs)
  each_of_rest zero xs each = each
  each_of_rest (suc n) [] each = tt
  each_of_rest (suc n) (x ∷ xs) each = each_of_rest n xs each.1

  each_of_chosen : (b : Bool) (x : A) (xs : List A) → P x → EachIs P xs → EachIs P (cond b (x ∷ xs) xs)
  each_of_chosen true x xs h each = (h, each)
  each_of_chosen false x xs h each = each

  -- of those that pass a test
  pub each_of_passing : (test : A → Bool) (xs : List A) → EachIs P xs → EachIs P (filter test xs)
  each_of_passing test [] each = tt
  each_of_passing test (x ∷ xs) each =
      each_of_chosen (test x) x (filter test xs) each.0 (each_of_passing test xs each.1)

  -- of the members from the last to the first
  pub each_of_reversed : (xs : List A) → EachIs P xs → EachIs P (reverse xs)
  each_of_reversed [] each = tt
  each_of_reversed (x ∷ xs) each = subst (EachIs P) (sym (reverse-append (x ∷ []) xs))
      (each_of_both P (reverse xs) (x ∷ []) (each_of_reversed xs each.1) (each.0, tt))

  -- of a member at a place
  pub has_at : (xs : List A) (i : ℕ) (x : A) → EachIs P xs → slice_get xs i ≡ Some x → P x
  has_at [] i x each at = absurd (none-some x at)
  has_at (y ∷ xs) zero x each at = subst P (same_Some y x at) each.0
  has_at (y ∷ xs) (suc i) x each at = has_at xs i x each.1 at
