-- The segments of a path stand around its slashes (47), as the parts of Ruby's `path.split("/", -1)` do; the empty
-- path has one.
use Rattle.std.specs.Prelude.{ℕ, List, [], ◌≡◌, ◌≢◌, ◌==◌}
use Rattle.std.specs.List.{All, slice_split, join_with_byte}

-- The byte that stands between segments.
abbrev pub slash : ℕ
slash = 47

-- no slash is in it
abbrev pub IsPiece : List ℕ → Type 0
IsPiece piece = All (λ byte. byte ≢ slash) piece

-- The segments of a path: one at least, none with a slash, and with a slash between each two they are the path.
abbrev pub AreSegments : List ℕ → List (List ℕ) → Type 0
AreSegments path pieces = (pieces ≢ []) × All IsPiece pieces × (join_with_byte slash pieces ≡ path)

-- the list that they are
abbrev pub segments : List ℕ → List (List ℕ)
segments path = slice_split (λ byte. byte == slash) path
