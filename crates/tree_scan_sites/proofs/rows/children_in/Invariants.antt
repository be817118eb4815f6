use Rattle.std.proofs.Common.{◌≡◌, ◌++◌, drop}
use Rattle.tree_scan_sites.specs.Rows.{children_run}
use Rattle.tree_scan_sites.proofs.rows.children_in.Given as goal

abbrev pub invariant-paths : goal.invariant-paths
invariant-paths l = l.names ++ children_run l.front (drop l.path-index l.paths) ≡ children_run l.front l.paths
