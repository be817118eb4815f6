use Rattle.std.proofs.Common.{◌∙◌}
use Rattle.http_front_head.proofs.ManyLines.{blank_nil}
use Rattle.http_front_head.proofs.scan.blank_end.Goals as goal

pub returns-clause-place : goal.returns-clause-place
returns-clause-place c = λ n.
    c.loop-at.invariant.place n ∙ blank_nil c.args.bytes.now c.loop-at.at n c.loop-at-test.false
