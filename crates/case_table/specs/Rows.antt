-- Rows of a name and its code, and how their names rise.
use Rattle.std.specs.Prelude.{◌≡◌, ◌≢◌, ℕ, ◌+◌, ◌<◌, List, Some, slice_get}
use Rattle.std.specs.Ordering.{nat_cmp}
use Rattle.std.specs.Cmp.Lexicographic.{slice_cmp}
use Rattle.std.specs.declared.cmp.Ordering.TheVariants.{Less}
use Rattle.case_table.specs.declared.CaseFault.{CaseFault}
use Rattle.case_table.specs.declared.CaseFault.TheVariants.{NotRising}

-- one name stands before another in the order of their bytes
abbrev pub IsLess : List ℕ → List ℕ → Type 0
IsLess a b = slice_cmp nat_cmp a b ≡ Less

-- among the first n rows, each name is less than each later one
abbrev pub RisingTo : List (List ℕ × ℕ) → ℕ → Type 0
RisingTo rows n = (i j : ℕ) (r s : List ℕ × ℕ) → i < j → j < n → slice_get rows i ≡ Some r →
    slice_get rows j ≡ Some s → IsLess r.0 s.0

-- each name is less than each later one; so no name stands twice
abbrev pub Rising : List (List ℕ × ℕ) → Type 0
Rising rows = (i j : ℕ) (r s : List ℕ × ℕ) → i < j → slice_get rows i ≡ Some r → slice_get rows j ≡ Some s →
    IsLess r.0 s.0

-- a row has this name and code
abbrev pub HasCode : List (List ℕ × ℕ) → List ℕ → ℕ → Type 0
HasCode rows name code = (i : ℕ) × (slice_get rows i ≡ Some (name, code))

-- no row has this name
abbrev pub HasNone : List (List ℕ × ℕ) → List ℕ → Type 0
HasNone rows name = (i : ℕ) (r : List ℕ × ℕ) → slice_get rows i ≡ Some r → r.0 ≢ name

-- the name at n isn't greater than the one before it, and up to there names rise
pub record FirstFall (rows : List (List ℕ × ℕ)) (n : ℕ) : Type 0 where
  pub before : ℕ
  pub earlier : List ℕ × ℕ
  pub later : List ℕ × ℕ
  pub next : n ≡ before + 1
  pub earlier_at : slice_get rows before ≡ Some earlier
  pub later_at : slice_get rows n ≡ Some later
  pub falls : IsLess earlier.0 later.0 → ⊥
  pub rises : RisingTo rows n

-- what is told of rows that don't rise
abbrev pub IsFault : List (List ℕ × ℕ) → CaseFault → Type 0
IsFault rows (NotRising n) = FirstFall rows n
