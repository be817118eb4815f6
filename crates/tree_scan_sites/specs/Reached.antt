-- Which paths are spelled or stand above a spelled one: the function that the table's paths are made by.
use Rattle.std.specs.Prelude.{ℕ, zero, suc, List, [], ◌∷◌, ◌++◌, map}
use Rattle.tree_scan_sites.specs.declared.spelled.Spelled.{Spelled}
use Rattle.tree_scan_sites.specs.Paths.{shared}

-- the beginnings of a path that have more names than this
abbrev pub longer : ℕ → List (List ℕ) → List (List (List ℕ))
longer n [] = []
longer zero (name ∷ names) = (name ∷ []) ∷ map (λ p. name ∷ p) (longer zero names)
longer (suc n) (name ∷ names) = map (λ p. name ∷ p) (longer n names)

-- the beginnings of each constant that aren't beginnings of the one before
abbrev pub paths_from : (previous : List (List ℕ)) → List Spelled → List (List (List ℕ))
paths_from previous [] = []
paths_from previous (s ∷ spelled) = longer (shared previous s.constant) s.constant ++ paths_from s.constant spelled
