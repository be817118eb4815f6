-- Which file owns which constant.
use Rattle.std.specs.Prelude.{ℕ, cond, List, [], ◌∷◌, map, Option, Some, None}
use Rattle.program_places.specs.Paths.{Path, same_path}
use Rattle.program_owners.specs.declared.owned.Owned.{Owned}

-- the constants that are owned
abbrev pub owned_paths : List Owned → List Path
owned_paths owned = map (λ o. o.path) owned

-- the file that owns a constant: that of its first row
abbrev pub owner_in : Path → List Owned → Option ℕ
owner_in path [] = None
owner_in path (o ∷ owned) = cond (same_path o.path path) (Some o.file) (owner_in path owned)
