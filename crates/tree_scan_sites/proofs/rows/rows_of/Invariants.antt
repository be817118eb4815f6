use Rattle.std.proofs.Common.{◌≡◌, ◌++◌, length}
use Rattle.tree_scan_sites.specs.Rows.{rows_of}
use Rattle.tree_scan_sites.proofs.rows.rows_of.Given as goal

abbrev pub invariant-paths : goal.invariant-paths
invariant-paths l = l.rows.items ++ rows_of l.spelled l.left ≡ rows_of l.spelled l.paths

abbrev pub decreases-paths : goal.decreases-paths
decreases-paths l = length l.left
