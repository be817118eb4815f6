use Rattle.std.proofs.Common.{◌≡◌, length}
use Rattle.tree_scan_sites.specs.Paths.{path_order}
use Rattle.tree_scan_sites.proofs.compare.compare_paths.Given as goal

abbrev pub invariant-names : goal.invariant-names
invariant-names l = path_order l.left l.right ≡ path_order l.path l.other

abbrev pub decreases-names : goal.decreases-names
decreases-names l = length l.left
