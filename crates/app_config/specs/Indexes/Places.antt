-- The places of the last lines of each base, as a map has them.
use Rattle.std.specs.Prelude.{◌≡◌, ◌≢◌, ℕ, ◌<◌, List, length, slice_index_or, Option, Some, None}
use Rattle.std.specs.Ordering.{nat_cmp}
use Rattle.std.specs.Cmp.Lexicographic.{slice_cmp}
use Rattle.std.specs.BTreeMap.{BTreeMap, get_by}
use denote.Ref.{Bor}

-- the place of the last pair with this base among the first `count`; none where none of them has it
abbrev pub IsLastPlace : (count : ℕ) → List (List ℕ × List ℕ) → (base : List ℕ) → Option ℕ → Type 0
IsLastPlace count pairs base None = (k : ℕ) (d : List ℕ × List ℕ) → k < count → (slice_index_or pairs k d).0 ≢ base
IsLastPlace count pairs base (Some place) = (place < count)
    × ((d : List ℕ × List ℕ) → (slice_index_or pairs place d).0 ≡ base)
    × ((k : ℕ) (d : List ℕ × List ℕ) → place < k → k < count → (slice_index_or pairs k d).0 ≢ base)

-- what a map from bases has for a base
abbrev pub place_of : BTreeMap (Bor (List ℕ)) ℕ → List ℕ → Option ℕ
place_of places base = get_by (λ key. slice_cmp nat_cmp base key.now) places

-- a map has the place of the last pair of each base
abbrev pub AreLastPlaces : List (List ℕ × List ℕ) → BTreeMap (Bor (List ℕ)) ℕ → Type 0
AreLastPlaces pairs places = (base : List ℕ) → IsLastPlace (length pairs) pairs base (place_of places base)
