-- Which files count (Zeitwerk README, "Ignoring parts of the project": names that begin with a dot and files without
-- the
-- ending `.rb` count for nothing by themselves).
use Rattle.std.specs.Prelude.{◌≡◌, ◌⊎◌, ℕ, List, ◌∷◌}
use Rattle.std.specs.List.{Any}
use Rattle.plain_text.specs.Segments.{segments}
use Rattle.app_config.specs.declared.config.Config.{Config}
use Rattle.app_config.specs.Patterns.{IsNamed}
use Rattle.tree_scan_names.specs.Below.{EndsInRb, within}

-- a name that begins with `.` (46)
abbrev pub BeginsWithDot : List ℕ → Type 0
BeginsWithDot segment = (rest : List ℕ) × (segment ≡ 46 ∷ rest)

-- some segment of the path below a root begins with `.`
abbrev pub IsHidden : List ℕ → Type 0
IsHidden below = Any BeginsWithDot (segments below)

-- the whole of a path below a root, or what stands before one of its slashes
abbrev pub IsFrontOf : List ℕ → List ℕ → Type 0
IsFrontOf front below = (front ≡ below) ⊎ ((rest : List ℕ) × (within front rest ≡ below))

-- A pattern of `ignore` names the file itself or a directory between the root and the file. The root's own path is none
-- of these.
abbrev pub IsIgnored : Config → List ℕ → List ℕ → Type 0
IsIgnored config root below = (front : List ℕ) × (IsFrontOf front below) × IsNamed config.ignore (within root front)

-- a name and the path that it is at are hidden or ignored by themselves
abbrev pub IsPassed : Config → List ℕ → List ℕ → Type 0
IsPassed config name place = BeginsWithDot name ⊎ IsNamed config.ignore place

-- the file counts for nothing whatever its ending: it is hidden or ignored
abbrev pub IsPassedOver : Config → List ℕ → List ℕ → Type 0
IsPassedOver config root below = IsHidden below ⊎ IsIgnored config root below

-- a file that counts: it ends in `.rb`, and it is neither hidden nor ignored
pub record Counts (config : Config) (root below : List ℕ) : Type 0 where
  pub ruby : EndsInRb below
  pub shown : ¬ IsHidden below
  pub kept : ¬ IsIgnored config root below
