use Rattle.std.proofs.Common.{◌≡◌, ◌+◌, length}
use Rattle.tree_scan_sites.specs.Paths.{shared}
use Rattle.tree_scan_sites.proofs.compare.shared_names.Given as goal

abbrev pub invariant-names : goal.invariant-names
invariant-names l = record {
  counted : l.count + length l.left ≡ length l.path;
  same : l.count + shared l.left
      l.right ≡ shared l.path l.other;
}

abbrev pub decreases-names : goal.decreases-names
decreases-names l = length l.left
