use Rattle.std.proofs.Common.{◌≤◌, length}
use Rattle.tree_scan_roots.proofs.AboveLaws.{AllShorter}
use Rattle.tree_scan_roots.proofs.table.RootTable.above.Given as goal

abbrev pub invariant-places : goal.invariant-places
invariant-places l = record {
  within : l.end ≤ length l.path;
  shorter : AllShorter l.self l.path l.end;
}

abbrev pub decreases-places : goal.decreases-places
decreases-places l = l.end
