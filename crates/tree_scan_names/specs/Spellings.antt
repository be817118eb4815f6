-- What a path below a root spells, as the scan of a tree wants it.
use Rattle.std.specs.Prelude.{ℕ, ◌+◌, ◌⊎◌, List, IsTrue, take, drop}
use Rattle.std.specs.List.{list_all}
use Rattle.app_config.specs.Paths.{is_constant}
use Rattle.app_config.specs.declared.config.Config.{Config}
use Rattle.tree_scan_names.specs.Below.{EndsInRb, SpellsBelow}
use Rattle.tree_scan_names.specs.Counts.{Counts, IsPassedOver}
use Rattle.tree_scan_names.specs.declared.spelling.Spelling.{Spelling}
use Rattle.tree_scan_names.specs.declared.spelling.Spelling.TheVariants.{Names, Nothing, BadName}

-- a path up to the slash at a place, and what stands behind that slash
abbrev pub above : List ℕ → ℕ → List ℕ
above path place = take place path

-- what stands behind the slash at this place of the path
abbrev pub behind : List ℕ → ℕ → List ℕ
behind path place = drop (place + 1) path

-- each name is a constant name, `[A-Z][A-Za-z0-9_]*`
abbrev pub AreConstants : List (List ℕ) → Type 0
AreConstants names = IsTrue (list_all is_constant names)

-- A file that counts spells its names where each is a constant name, and is at fault where one isn't. Any other file
-- spells nothing, whatever the names of its directories.
abbrev pub IsSpelling : Config → List ℕ → List ℕ → Spelling → Type 0
IsSpelling config root below (Names names) = Counts config root below × SpellsBelow config root below names
    × AreConstants names
IsSpelling config root below Nothing = (¬ EndsInRb below) ⊎ IsPassedOver config root below
IsSpelling config root below BadName = Counts config root below
    × ((names : List (List ℕ)) × SpellsBelow config root below names × (¬ AreConstants names))
