-- An index of pairs: rows of places, each row with the places of the pairs whose keys' digests leave its number.
use Rattle.std.specs.Prelude.{◌≡◌, ℕ, ◌+◌, ◌%◌, Bool, false, nat_eq, if◌then◌else◌, List, [], ◌∷◌, Option, Some, None}
use Rattle.std.specs.Prelude.{slice_get, length}
use Rattle.ruby_types.specs.Same.{same}
use Rattle.ruby_types.specs.declared.value.Value.{Value}
use Rattle.ruby_builtin_keys.specs.Digest.{digest}

-- a key and its value
abbrev pub Pair : Type 0
Pair = Value × Value

-- whether a digest belongs into a row, by what it leaves
abbrev pub belongs : ℕ → ℕ → ℕ → Bool
belongs rows row d = nat_eq (d % rows) row

-- the places of the pairs whose keys' digests pass a test, counted from a first place on
abbrev pub places : (ℕ → Bool) → ℕ → List Pair → List ℕ
places test first [] = []
places test first (pair ∷ pairs) =
    if test (digest pair.0) then first ∷ places test (first + 1) pairs else places test (first + 1) pairs

-- each row has the places that belong into it
abbrev pub IsIndex : List (List ℕ) → List Pair → Type 0
IsIndex rows pairs =
    (row : ℕ) (found : List ℕ) → slice_get rows row ≡ Some found → found ≡ places (belongs (length rows) row) 0 pairs

-- whether the pair at a place has this key
abbrev pub has_key : Value → Option Pair → Bool
has_key key None = false
has_key key (Some pair) = same pair.0 key

-- the first of these places whose pair has this key
abbrev pub first_of : List Pair → Value → List ℕ → Option ℕ
first_of pairs key [] = None
first_of pairs key (place ∷ places) =
    if has_key key (slice_get pairs place) then Some place else first_of pairs key places

-- the place of the first pair with this key, counted from a first place on
abbrev pub first_at : ℕ → List Pair → Value → Option ℕ
first_at first [] key = None
first_at first (pair ∷ pairs) key = if same pair.0 key then Some first else first_at (first + 1) pairs key
