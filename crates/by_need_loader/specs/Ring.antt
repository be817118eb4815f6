-- A ring of tasks, turned to its least.
use Rattle.std.specs.Prelude.{◌≡◌, ◌<◌, ◌++◌, ℕ, List, length, take, drop, slice_get, Some, Bool, true}

-- No task of the list is less than the one at the place.
abbrev pub HasLeast : {T : Type 0} → (T → T → Bool) → List T → ℕ → Type 0
HasLeast {T} at_most ts place = (m z : T) (k : ℕ) → slice_get ts place ≡ Some m → slice_get ts k ≡ Some z →
    at_most m z ≡ true

-- The list, turned so that its least comes first.
pub record IsTurned {T : Type 0} (at_most : T → T → Bool) (ts ring : List T) : Type 0 where
  pub place : ℕ
  pub within : place < length ts
  pub least : HasLeast at_most ts place
  pub is : ring ≡ drop place ts ++ take place ts
