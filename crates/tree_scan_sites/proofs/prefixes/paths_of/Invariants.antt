use Rattle.std.proofs.Common.{◌≡◌, ◌++◌, [], drop}
use Rattle.tree_scan_sites.specs.Reached.{paths_from}
use Rattle.tree_scan_sites.proofs.prefixes.paths_of.Given as goal

abbrev pub invariant-spelled : goal.invariant-spelled
invariant-spelled l = l.paths.items ++ paths_from l.previous (drop l.entry-index l.spelled) ≡ paths_from [] l.spelled
