use Rattle.std.proofs.Common.{◌≡◌, ◌++◌}
use Rattle.tree_scan_sites.specs.Reached.{longer}
use Rattle.tree_scan_sites.proofs.prefixes.push_longer.Given as goal

abbrev pub invariant-lengths : goal.invariant-lengths
invariant-lengths l = l.paths.items ++ longer l.length l.constant ≡ l.initial.paths.items ++ longer l.names l.constant
