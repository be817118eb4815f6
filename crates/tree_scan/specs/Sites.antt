-- The sites of an application.
use Rattle.std.specs.Prelude.{◌≡◌, ◌↔◌, ℕ, List, [], Option, Some, None, slice_get, All, Contains, ⊤}
use Rattle.outside.specs.Order.{Rising}
use Rattle.outside.specs.Tree.{paths_of}
use Rattle.outside.specs.declared.files.FileEntry.{FileEntry}
use Rattle.app_config.specs.declared.config.Config.{Config}
use Rattle.tree_scan_roots.specs.Roots.{AreRoots, IsTwoRoots, NamesOnce}
use Rattle.tree_scan_roots.specs.declared.roots.Root.{Root}
use Rattle.tree_scan_sites.specs.Listed.{Lists}
use Rattle.tree_scan_sites.specs.Sites.{IsShadowed}
use Rattle.tree_scan.specs.Scanned.{Scanned}
use Rattle.tree_scan.specs.Spells.{Spells, HasBadName, IsFirstBadName}
use Rattle.tree_scan.specs.declared.fault.ScanFault.{ScanFault}
use Rattle.tree_scan.specs.declared.fault.ScanFault.TheVariants.{BadName, TwoRoots, Memory}

-- the file of this number has this path
abbrev pub HasPath : List FileEntry → (file : ℕ) → (path : List ℕ) → Type 0
HasPath files file path = (entry : FileEntry) × (slice_get files file ≡ Some entry) × (entry.path ≡ path)

-- the paths of the files of these numbers, in the order of their bytes
pub record ArePathsOf (files : List FileEntry) (IsOne : ℕ → Type 0) (paths : List (List ℕ)) : Type 0 where
  pub exact : (path : List ℕ) → Contains paths path ↔ ((file : ℕ) × HasPath files file path × IsOne file)
  pub rising : Rising paths

-- The sites of these files under this configuration: no two root lines have one path; over the application's roots,
-- what is
-- listed is what the files spell, no name is bad, and the shadowed files are those that spell a constant of which
-- they aren't
-- the file.
pub record AreSites (files : List FileEntry) (config : Config) (sites : Scanned) : Type 0 where
  pub once : NamesOnce config.roots
  pub roots : List Root
  pub are_roots : AreRoots (paths_of files) config.roots roots
  pub spelled : (constant : List (List ℕ)) (root file : ℕ) →
      Lists sites.spelled constant root file ↔ Spells roots config files constant root file
  pub named : All (λ f. ¬ (HasBadName roots config f.path)) files
  pub shadowed : ArePathsOf files (IsShadowed (Spells roots config files)) sites.shadowed

-- Why there are no sites: two root lines with one path; and where there are none, a bad name. Memory may run out
-- anywhere.
abbrev pub IsFault : List FileEntry → Config → ScanFault → Type 0
IsFault files config (TwoRoots path) = IsTwoRoots config.roots path
IsFault files config (BadName path) = NamesOnce config.roots
    × ((roots : List Root) × AreRoots (paths_of files) config.roots roots × IsFirstBadName roots config files path)
IsFault files config Memory = ⊤

-- the path of the file, if there is one
abbrev pub path_in : Option FileEntry → List ℕ
path_in None = []
path_in (Some entry) = entry.path

-- the path of the file of this number; no file has a number past the last
abbrev pub path_at : List FileEntry → (file : ℕ) → List ℕ
path_at files file = path_in (slice_get files file)
