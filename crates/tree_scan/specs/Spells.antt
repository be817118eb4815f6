-- Which file spells which constant (Zeitwerk README, "File structure": a constant path follows from a file path).
use Rattle.std.specs.Prelude.{◌≡◌, ℕ, List, ◌∷◌, ◌++◌, Some, slice_get, All}
use Rattle.outside.specs.declared.files.FileEntry.{FileEntry}
use Rattle.app_config.specs.declared.config.Config.{Config}
use Rattle.tree_scan_roots.specs.declared.roots.Root.{Root}
use Rattle.tree_scan_roots.specs.Above.{IsLongestAbove}
use Rattle.tree_scan_names.specs.Counts.{Counts}
use Rattle.tree_scan_names.specs.Below.{SpellsBelow}
use Rattle.tree_scan_names.specs.Spellings.{AreConstants}

-- A file that counts spells these names below the root of this number, which is the longest root above its path. The
-- names
-- are those of the directories below the root that aren't collapsed, and that of the file.
pub record SpellsNames (roots : List Root) (config : Config) (path : List ℕ) (root : ℕ)
    (names : List (List ℕ)) : Type 0 where
  pub longest : IsLongestAbove roots path root
  pub counts : Counts config longest.root.path longest.above.0
  pub spelled : SpellsBelow config longest.root.path longest.above.0 names

-- The constant that a path spells: its root's namespace, and then its names below the root.
pub record SpellsConstant (roots : List Root) (config : Config) (path : List ℕ) (constant : List (List ℕ))
    (root : ℕ) : Type 0 where
  pub names : List (List ℕ)
  pub spells : SpellsNames roots config path root names
  pub joined : constant ≡ spells.longest.root.namespace ++ names

-- The file of this number spells the constant.
pub record Spells (roots : List Root) (config : Config) (files : List FileEntry) (constant : List (List ℕ))
    (root file : ℕ) : Type 0 where
  pub entry : FileEntry
  pub stands : slice_get files file ≡ Some entry
  pub spells : SpellsConstant roots config entry.path constant root

-- Some name of the path below its root is no constant name: its own, or that of a directory that isn't collapsed.
pub record HasBadName (roots : List Root) (config : Config) (path : List ℕ) : Type 0 where
  pub root : ℕ
  pub names : List (List ℕ)
  pub spells : SpellsNames roots config path root names
  pub bad : ¬ (AreConstants names)

-- The path is the first of the files' that has a bad name. The files are in the order of their paths.
pub record IsFirstBadName (roots : List Root) (config : Config) (files : List FileEntry) (path : List ℕ) : Type 0 where
  pub before : List FileEntry
  pub entry : FileEntry
  pub behind : List FileEntry
  pub split : files ≡ before ++ entry ∷ behind
  pub here : entry.path ≡ path
  pub bad : HasBadName roots config path
  pub none_before : All (λ f. ¬ (HasBadName roots config f.path)) before
