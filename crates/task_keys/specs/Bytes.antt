-- What is left of a name that is read byte by byte.
use Rattle.std.specs.Prelude.{ℕ, List, [], ◌∷◌, ◌++◌, ◌+◌, ◌*◌, length, min}
use Rattle.task_keys.specs.declared.name.NameBytes.{NameBytes}

-- The names with `::` before each.
abbrev pub parted_text : List (List ℕ) → List ℕ
parted_text [] = []
parted_text (name ∷ names) = 58 ∷ 58 ∷ (name ++ parted_text names)

-- The piece, what comes behind it, and the names after that.
abbrev pub bytes_left : NameBytes → List ℕ
bytes_left left = left.piece.now ++ (left.behind.now ++ parted_text left.names.now)

-- How often another piece may take the place of an empty one.
abbrev pub pieces_left : NameBytes → ℕ
pieces_left left = 2 * length left.names.now + min 1 (length left.behind.now)
