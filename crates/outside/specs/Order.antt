-- The order of texts by their bytes: that of a dictionary over the byte values, in which a text comes before each
-- longer one that begins with it. It is Rust's order of slices.
use Rattle.std.specs.Prelude.{◌≡◌, ℕ, List, AllPairs}
use Rattle.std.specs.Ordering.{nat_cmp, Ordering-set}
use Rattle.std.specs.Cmp.Lexicographic.{slice_cmp}
use Rattle.std.specs.declared.cmp.Ordering.{Ordering}
use Rattle.std.specs.declared.cmp.Ordering.TheVariants.{Less}

-- how two texts compare, by the first byte in which they differ, else by their lengths
abbrev pub order : List ℕ → List ℕ → Ordering
order a b = slice_cmp nat_cmp a b

-- the first text comes before the second
abbrev pub IsBefore : List ℕ → List ℕ → Type 0
IsBefore a b = order a b ≡ Less

-- each text comes before each later one: they rise, and no two are the same
abbrev pub Rising : List (List ℕ) → Type 0
Rising texts = AllPairs IsBefore texts

-- that texts rise has one proof at most
pub Rising-prop : (texts : List (List ℕ)) → IsProp (Rising texts)
Rising-prop texts = hlevel Ordering-set
