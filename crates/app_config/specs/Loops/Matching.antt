-- How a segment is matched: the functions through which the matcher is proved. Their laws tie them to what fits.
use Rattle.std.specs.Prelude.{ℕ, Bool, true, false, List, [], ◌∷◌, ◌==◌, ◌||◌, ◌&&◌, if◌then◌else◌, Option, Some, None}
use Rattle.app_config.specs.Text.{split}

-- nothing is left, as where a segment ends with the pattern
abbrev pub is_empty : List ℕ → Bool
is_empty [] = true
is_empty (_ ∷ _) = false

-- some end of the segment passes; the whole segment and the empty end are among them
abbrev pub some_end : (List ℕ → Bool) → List ℕ → Bool
some_end test [] = test []
some_end test (first ∷ rest) = test (first ∷ rest) || some_end test rest

-- what stands behind a piece at the front
abbrev pub behind : List ℕ → List ℕ → Option (List ℕ)
behind [] segment = Some segment
behind (byte ∷ piece) [] = None
behind (byte ∷ piece) (first ∷ rest) = if first == byte then behind piece rest else None

-- the first of two answers that found something
abbrev pub first_of : Option (List ℕ) → Option (List ℕ) → Option (List ℕ)
first_of (Some found) other = Some found
first_of None other = other

-- what stands behind the first place of a piece
abbrev pub behind_first : List ℕ → List ℕ → Option (List ℕ)
behind_first piece [] = behind piece []
behind_first piece (first ∷ rest) = first_of (behind piece (first ∷ rest)) (behind_first piece rest)

-- something was found, and what was found passes the test
abbrev pub passes : (List ℕ → Bool) → Option (List ℕ) → Bool
passes test None = false
passes test (Some rest) = test rest

-- the pieces between stars stand in the segment: the first at its front, the last at its end, the others between them
abbrev pub fits_pieces : List (List ℕ) → List ℕ → Bool
fits_pieces [] segment = false
fits_pieces (piece ∷ []) segment = passes is_empty (behind piece segment)
fits_pieces (piece ∷ next ∷ more) segment = passes (some_end (fits_pieces (next ∷ more))) (behind piece segment)

-- a segment fits one of a pattern, by the pieces between the pattern's stars
abbrev pub segment_fits : List ℕ → List ℕ → Bool
segment_fits pattern segment = fits_pieces (split 42 pattern) segment

-- some end of the segment fits
abbrev pub some_end_fits : List ℕ → List ℕ → Bool
some_end_fits pattern segment = some_end (fits_pieces (split 42 pattern)) segment

-- each segment fits the one at its place
abbrev pub all_fit : List (List ℕ) → List (List ℕ) → Bool
all_fit [] [] = true
all_fit [] (_ ∷ _) = false
all_fit (_ ∷ _) [] = false
all_fit (pattern ∷ patterns) (segment ∷ segments) = segment_fits pattern segment && all_fit patterns segments
