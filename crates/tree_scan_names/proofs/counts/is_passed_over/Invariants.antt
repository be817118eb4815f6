use Rattle.std.proofs.Common.{◌≡◌, length}
use Rattle.tree_scan_names.specs.Below.{within}
use Rattle.tree_scan_names.specs.Counts.{IsPassedOver}
use Rattle.tree_scan_names.proofs.counts.is_passed_over.Given as goal

abbrev pub invariant-steps : goal.invariant-steps
invariant-steps l = record {
  way : l.path ≡ within l.directory l.left;
  back : IsPassedOver l.rules l.directory l.left → IsPassedOver l.rules l.root l.below;
  on : IsPassedOver l.rules l.root l.below → IsPassedOver l.rules l.directory l.left;
}

abbrev pub decreases-steps : goal.decreases-steps
decreases-steps l = length l.left
