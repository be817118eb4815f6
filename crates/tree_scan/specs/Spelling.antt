-- What one file spells, as the scan finds it.
use Rattle.std.specs.Prelude.{◌≡◌, ℕ, List, Option, Some, None, ⊤}
use Rattle.outside.specs.declared.files.FileEntry.{FileEntry}
use Rattle.app_config.specs.declared.config.Config.{Config}
use Rattle.tree_scan_roots.specs.declared.roots.Root.{Root}
use Rattle.tree_scan.specs.Spells.{HasBadName, IsFirstBadName}
use Rattle.tree_scan.specs.declared.spelling.RootedConstant.{RootedConstant}
use Rattle.tree_scan.specs.declared.fault.ScanFault.{ScanFault}
use Rattle.tree_scan.specs.declared.fault.ScanFault.TheVariants.{BadName, TwoRoots, Memory}

-- what was found is this constant, below this root
abbrev pub SpelledBy : Option RootedConstant → (constant : List (List ℕ)) → (root : ℕ) → Type 0
SpelledBy None constant root = ⊥
SpelledBy (Some found) constant root = (found.path ≡ constant) × (found.root ≡ root)

-- a fault that one path shows
abbrev pub IsNameFaultOf : List Root → Config → List ℕ → ScanFault → Type 0
IsNameFaultOf roots config path (BadName bad) = (bad ≡ path) × HasBadName roots config path
IsNameFaultOf roots config path (TwoRoots other) = ⊥
IsNameFaultOf roots config path Memory = ⊤

-- a fault that the files' paths show
abbrev pub IsNameFault : List Root → Config → List FileEntry → ScanFault → Type 0
IsNameFault roots config files (BadName bad) = IsFirstBadName roots config files bad
IsNameFault roots config files (TwoRoots other) = ⊥
IsNameFault roots config files Memory = ⊤
