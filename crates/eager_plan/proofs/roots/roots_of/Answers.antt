use Rattle.std.proofs.Common.{subst}
use Rattle.tree_scan_roots.specs.Roots.{IsTwoRoots}
use Rattle.tree_scan_roots.proofs.FaultLaws.{no_fault}
use Rattle.eager_plan.proofs.roots.roots_of.Goals as goal

pub unreachable-requires : goal.unreachable-requires
unreachable-requires c =
    let path = c.in-Err-TwoRoots.field-0-0 in
    let two = rw c.in-Err-TwoRoots.field-0-is at c.in-Err-TwoRoots.ensures.fault in
    no_fault c.args.config.now.roots path (subst (λ lines. IsTwoRoots lines path) c.as_slice.ensures two) c.requires
