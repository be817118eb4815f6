use Rattle.std.proofs.Common.{ℕ, List, take, ◌↔◌}
use Rattle.outside.specs.Tree.{paths_of}
use Rattle.tree_scan_roots.specs.Directories.{IsDefaultRoot}
use Rattle.tree_scan_roots.specs.Keys.{Has}
use Rattle.tree_scan_roots.proofs.directories.default_roots.Given as goal

abbrev pub invariant-files : goal.invariant-files
invariant-files l = (directory : List ℕ) →
    Has l.found directory ↔ IsDefaultRoot (paths_of (take l.file-index l.files)) directory
