-- Reads of a history that grows.
use Rattle.std.proofs.Common.{◌≡◌, ℕ, zero, suc, List, [], ◌∷◌, ◌++◌, length, Some, slice_get, refl}
use Rattle.std.proofs.lemmas.Option.{none-some}

module _ {A : Type 0} where
  -- what stands at a place stands there still
  pub get_grown : (es xs : List A) (place : ℕ) (e : A) → slice_get es place ≡ Some e →
      slice_get (es ++ xs) place ≡ Some e
  get_grown [] xs place e is = absurd (none-some e is)
  get_grown (x ∷ es) xs zero e is = is
  get_grown (x ∷ es) xs (suc place) e is = get_grown es xs place e is

  -- the new entry stands at the end
  pub get_new : (es : List A) (e : A) → slice_get (es ++ e ∷ []) (length es) ≡ Some e
  get_new [] e = refl
  get_new (x ∷ es) e = get_new es e
