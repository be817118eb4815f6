-- How a constant path is printed.
use Rattle.std.specs.Prelude.{ℕ, List, [], ◌∷◌, ◌++◌}

-- the names with `::` between them: `Admin::User`
abbrev pub path_text : List (List ℕ) → List ℕ
path_text [] = []
path_text (name ∷ []) = name
path_text (name ∷ next ∷ names) = name ++ (58 ∷ 58 ∷ path_text (next ∷ names))
