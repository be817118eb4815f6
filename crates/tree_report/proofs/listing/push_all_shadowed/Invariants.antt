use Rattle.std.proofs.Common.{◌≡◌, ◌++◌, take}
use Rattle.std.specs.List.{flat_map}
use Rattle.tree_report.specs.Listing.{shadowed_line}
use Rattle.tree_report.proofs.listing.push_all_shadowed.Given as goal

abbrev pub invariant-paths : goal.invariant-paths
invariant-paths l = l.bytes.items ≡ l.initial.bytes.items ++ flat_map shadowed_line (take l.path-index l.paths)
