-- Which files of an application are loaded eagerly, and in which order (Zeitwerk README, "Eager loading").
use Rattle.std.specs.Prelude.{◌≡◌, ◌≢◌, ◌⊎◌, ◌↔◌, ℕ, Bool, IsTrue, List, [], AllPairs, Contains}
use Rattle.outside.specs.Tree.{paths_of}
use Rattle.outside.specs.declared.files.FileEntry.{FileEntry}
use Rattle.app_config.specs.Patterns.{IsNamed}
use Rattle.app_config.specs.declared.config.Config.{Config}
use Rattle.program_places.specs.Paths.{Path}
use Rattle.tree_scan_roots.specs.Above.{IsLongestAbove}
use Rattle.tree_scan_roots.specs.Directories.{IsAbove}
use Rattle.tree_scan_roots.specs.Roots.{AreRoots}
use Rattle.tree_scan_roots.specs.declared.roots.Root.{Root}
use Rattle.tree_scan_sites.specs.Listed.{Lists}
use Rattle.tree_scan_sites.specs.Sites.{IsFileOf}
use Rattle.tree_scan_sites.specs.declared.spelled.Spelled.{Spelled}
use Rattle.tree_scan.specs.Sites.{path_at}
use Rattle.eager_order.specs.EagerOrder.{ComesBefore}

-- The file of this number is the file of a constant that has a name. A shadowed file is none.
abbrev pub IsUsed : List Spelled → (file : ℕ) → Type 0
IsUsed spelled file = (constant : Path) × (constant ≢ []) × IsFileOf (Lists spelled) constant file

-- A pattern names the path, or a directory that is above it and below the root.
abbrev pub IsMarked : (patterns : List (List ℕ)) → (root path : List ℕ) → Type 0
IsMarked patterns root path = (place : List ℕ) × IsAbove root place × ((place ≡ path) ⊎ IsAbove place path)
    × IsNamed patterns place

-- the same, by the longest root above the path
abbrev pub IsSkipped : List Root → (patterns : List (List ℕ)) → (path : List ℕ) → Type 0
IsSkipped roots patterns path = (number : ℕ) × (longest : IsLongestAbove roots path number)
    × IsMarked patterns longest.root.path path

-- A file is loaded that is the file of a constant. The plan is those of them that no pattern of `skip_eager` marks.
pub record IsLoaded (roots : List Root) (config : Config) (files : List FileEntry) (spelled : List Spelled)
    (only_plan : Bool) (file : ℕ) : Type 0 where
  pub used : IsUsed spelled file
  pub kept : IsTrue only_plan → ¬ IsSkipped roots config.skip_eager (path_at files file)

-- the files that are loaded, in eager order: each comes before all later ones
pub record AreEagerFiles (files : List FileEntry) (config : Config) (spelled : List Spelled) (only_plan : Bool)
    (ordered : List ℕ) : Type 0 where
  pub roots : List Root
  pub are_roots : AreRoots (paths_of files) config.roots roots
  pub exact : (file : ℕ) → Contains ordered file ↔ IsLoaded roots config files spelled only_plan file
  pub rising : AllPairs (ComesBefore roots files) ordered
