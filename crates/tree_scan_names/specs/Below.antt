-- The names of a path below a root (Zeitwerk README, "File structure" and "Collapsing directories").
use Rattle.std.specs.Prelude.{◌≡◌, ◌⊎◌, ℕ, List, [], ◌∷◌, ◌++◌}
use Rattle.plain_text.specs.Segments.{slash, IsPiece}
use Rattle.app_config.specs.Patterns.{IsNamed}
use Rattle.app_config.specs.declared.config.Config.{Config}
use Rattle.tree_scan_names.specs.Camel.{IsCamelized}

-- what the path of a Ruby file ends in: `.rb` (46, 114, 98)
abbrev pub ruby_ending : List ℕ
ruby_ending = 46 ∷ 114 ∷ 98 ∷ []

-- a path that ends so; it does exactly where the part of it behind a slash does
abbrev pub EndsInRb : List ℕ → Type 0
EndsInRb path = (front : List ℕ) × (front ++ ruby_ending ≡ path)

-- what stands in a directory has the directory's path, a slash and its own name
abbrev pub within : List ℕ → List ℕ → List ℕ
within directory name = directory ++ slash ∷ name

-- a directory that adds no name
abbrev pub IsCollapsed : Config → List ℕ → Type 0
IsCollapsed config path = IsNamed config.collapse path

-- The names that are spelled from a directory on, by the part of a path below it: a file's base name, and before it the
-- name of each directory on the way that isn't collapsed. A path that doesn't end in `.rb` spells none.
pub data SpellsBelow (config : Config) : List ℕ → List ℕ → List (List ℕ) → Type 0 where
  file : (directory : List ℕ) {base name : List ℕ} → IsPiece base → IsCamelized config base name →
      SpellsBelow config directory (base ++ ruby_ending) (name ∷ [])
  named : (directory here : List ℕ) {below name : List ℕ} {names : List (List ℕ)} → IsPiece here →
      ¬ IsCollapsed config (within directory here) → IsCamelized config here name →
      SpellsBelow config (within directory here) below names →
      SpellsBelow config directory (within here below) (name ∷ names)
  collapsed : (directory here : List ℕ) {below : List ℕ} {names : List (List ℕ)} → IsPiece here →
      IsCollapsed config (within directory here) →
      SpellsBelow config (within directory here) below names → SpellsBelow config directory (within here below) names

-- the names gain that of a directory, unless it is collapsed
abbrev pub AddsDirectory : Config → List ℕ → List ℕ → List (List ℕ) → List (List ℕ) → Type 0
AddsDirectory config path here before after =
    (IsCollapsed config path × (after ≡ before))
    ⊎ ((¬ IsCollapsed config path)
    × ((name : List ℕ) × IsCamelized config here name × (after ≡ before ++ name ∷ [])))
