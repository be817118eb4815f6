use Rattle.std.proofs.Common.{◌≡◌}
use Rattle.tree_scan_roots.specs.Keys.{IsNumbering}
use Rattle.tree_scan_roots.specs.Roots.{root_paths}
use Rattle.tree_scan_roots.proofs.RootLaws.{with_lines}
use Rattle.tree_scan_roots.proofs.building.add_line_roots.Given as goal

abbrev pub invariant-lines : goal.invariant-lines
invariant-lines l = record {
  numbered : IsNumbering (root_paths l.building.roots) l.building.numbers;
  added : l.building.roots ≡ with_lines l.initial.building.roots l.lines l.line-index;
}
