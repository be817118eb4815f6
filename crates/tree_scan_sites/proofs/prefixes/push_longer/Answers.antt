use Rattle.std.proofs.Common.{arith, ◌∙◌}
use Rattle.std.proofs.lemmas.Grind.{common_steps}
use Rattle.tree_scan_sites.proofs.ReachLaws.{longer_step, longer_end}
use Rattle.tree_scan_sites.proofs.prefixes.push_longer.Goals as goal

pub lengths-preserved : goal.lengths-preserved
lengths-preserved c =
    longer_step c.lengths.paths.items c.push.new.self.items c.lengths.length c.args.constant.now
    c.in_ok-from_slice.field-0
    (omega arith) (c.in_ok-from_slice.ensures ∙ grind (arith, common_steps)) c.in_ok-push.ensures.items
    ∙ c.lengths.invariant

pub returns : goal.returns
returns c = longer_end c.lengths.paths.items c.lengths.length c.args.constant.now (omega arith) ∙ c.lengths.invariant
