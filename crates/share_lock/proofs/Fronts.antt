-- A list that is the front of the places that it is kept in.
use Rattle.std.proofs.Common.{◌≡◌, ℕ, ◌<◌, min, List, length, take, get_or, slice_get, Some, sym, ap, ◌∙◌, arith}
use Rattle.std.proofs.lemmas.List.{length-take, get_or-take}
use Rattle.std.proofs.lemmas.Option.{slice_get-get_or}

-- a place below the front's length is below the number of places that are in use
pub front_below : {A : Type 0} (n : ℕ) (places value : List A) → take n places ≡ value → (k : ℕ) → k < length value →
    k < n
front_below n places value is k below =
    let shorter : length value ≡ min n (length places) = ap length (sym is) ∙ length-take n places in omega arith

-- what the front has at a place stands at that place of the whole
pub front_at : {A : Type 0} (n : ℕ) (places value : List A) → take n places ≡ value → (k : ℕ) (d : A) →
    k < length value → slice_get value k ≡ Some (get_or places k d)
front_at n places value is k d below =
    slice_get-get_or value k d below
    ∙ ap Some (ap (λ xs. get_or xs k d) (sym is) ∙ get_or-take n places k d (front_below n places value is k below))
