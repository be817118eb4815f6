use Rattle.std.proofs.Common.{◌-◌, ◌∙◌}
use Rattle.shop_base.specs.Rows.{with_room, yielding_seat, running_seat}
use Rattle.shop_desk.proofs.Acting.{exclusive_state}
use Rattle.shop_desk.proofs.Guarding.{yield_passes}
use Rattle.shop_desk.proofs.desk.Desk.yield_share.Goals as goal

pub unreachable-requires : goal.unreachable-requires
unreachable-requires g c =
    let alone =
    exclusive_state g.M.Matter.facts g.met.M.Matter.same_is_equal 64 c.args.self.now.state c.act.ensures.after in
    let done =
    c.act.ensures.passed (yield_passes g.M.Matter.facts c.args.self.now.state c.args.seat alone c.requires.runs) in
    let refused = c.in-Refused.is in cc

pub returns-clause-row : goal.returns-clause-row
returns-clause-row g c = λ begun at.
    c.act.ensures.row c.in-Done.is (running_seat begun) at
    ∙ (λ i. with_room (yielding_seat begun) (c.entries_of-entries.ensures i - 1) (c.values_of-values.ensures i))
