use Rattle.tree_scan_roots.specs.Keys.{IsNumbering}
use Rattle.tree_scan_roots.specs.Roots.{root_paths}
use Rattle.tree_scan_roots.proofs.RootLaws.{IsSoFar}
use Rattle.tree_scan_roots.proofs.building.add_default_roots.Given as goal

abbrev pub invariant-directories : goal.invariant-directories
invariant-directories l = record {
  numbered : IsNumbering (root_paths l.building.roots) l.building.numbers;
  so_far : IsSoFar l.lines l.directories.keys l.building.roots l.directory-iterator;
}
