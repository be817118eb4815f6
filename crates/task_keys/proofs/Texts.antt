-- The text of a path, name by name.
use Rattle.std.proofs.Common.{◌≡◌, ℕ, List, [], ◌∷◌, ◌++◌, sym, refl}
use Rattle.std.proofs.lemmas.List.{append-nil}
use Rattle.ruby_types.specs.Paths.{path_text}
use Rattle.task_keys.specs.Bytes.{parted_text}

-- the text of a path is its first name, and then the others with `::` before each
pub first_name_first : (name : List ℕ) (names : List (List ℕ)) → path_text (name ∷ names) ≡ name ++ parted_text names
first_name_first name [] = sym (append-nil name)
first_name_first name (next ∷ names) = rw (first_name_first next names) refl
