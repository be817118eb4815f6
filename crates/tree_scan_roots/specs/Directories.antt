-- The directories of an application that are roots by default. Rails autoloads from each directory directly under `app`
-- but `assets`, `javascript` and `views`, and from each `app/*/concerns` (Rails guide, "Autoloading and Reloading
-- Constants").
use Rattle.std.specs.Prelude.{◌≡◌, ◌≢◌, ◌⊎◌, ℕ, List, ◌∷◌, ◌++◌, codes, Any, Contains}

-- The directory is above the path by whole segments: behind it the path goes on with a slash (47) and what is below.
abbrev pub IsAbove : (directory path : List ℕ) → Type 0
IsAbove directory path = (below : List ℕ) × (path ≡ directory ++ 47 ∷ below)

-- A directory exists where some file is below it.
abbrev pub Exists : (paths : List (List ℕ)) → (directory : List ℕ) → Type 0
Exists paths directory = Any (IsAbove directory) paths

-- the name of a directory has no slash
abbrev pub IsName : List ℕ → Type 0
IsName name = Contains name 47 → ⊥

-- what stands directly under `app` by one of these names is no root
abbrev pub IsRootName : List ℕ → Type 0
IsRootName name = (name ≢ codes "assets") × (name ≢ codes "javascript") × (name ≢ codes "views")

-- a directory directly under `app`, by a name that is a root's
abbrev pub IsTopRoot : List ℕ → Type 0
IsTopRoot directory = (name : List ℕ) × IsName name × IsRootName name × (directory ≡ codes "app/" ++ name)

-- `app/*/concerns`, whatever the name between
abbrev pub IsConcerns : List ℕ → Type 0
IsConcerns directory = (name : List ℕ) × IsName name × (directory ≡ codes "app/" ++ (name ++ codes "/concerns"))

-- a root by default, of an application that has files at these paths
abbrev pub IsDefaultRoot : (paths : List (List ℕ)) → (directory : List ℕ) → Type 0
IsDefaultRoot paths directory = (IsTopRoot directory ⊎ IsConcerns directory) × Exists paths directory
