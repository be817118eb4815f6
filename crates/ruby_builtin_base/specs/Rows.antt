-- A table of rows by their names, and the table of their places that the code looks a name up in.
use Rattle.std.specs.Prelude.{ℕ, zero, suc, ◌+◌, if◌then◌else◌, List, [], ◌∷◌, Option, Some, None}
use Rattle.std.specs.Str.{bytes_eq}

-- the row that has this name
unfoldable pub row_of : {Row : Type 0} → List (List ℕ × Row) → List ℕ → Option Row
row_of [] name = None
row_of (row ∷ rows) name = if bytes_eq row.0 name then Some row.1 else row_of rows name

-- each name with the place of its row, from one on
abbrev pub numbered : {Row : Type 0} → ℕ → List (List ℕ × Row) → List (List ℕ × ℕ)
numbered place [] = []
numbered place (row ∷ rows) = (row.0, place) ∷ numbered (place + 1) rows

-- the row at this place
abbrev pub row_at : {Row : Type 0} → List (List ℕ × Row) → ℕ → Option Row
row_at [] place = None
row_at (row ∷ rows) zero = Some row.1
row_at (row ∷ rows) (suc place) = row_at rows place
