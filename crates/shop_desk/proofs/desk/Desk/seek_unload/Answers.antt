use Rattle.std.proofs.Common.{◌-◌, length, ◌∙◌}
use Rattle.shop_base.specs.Rows.{with_room, seeking_unload_seat, sharing_seat}
use Rattle.shop_desk.proofs.Acting.{exclusive_state}
use Rattle.shop_desk.proofs.Guarding.{seek_unload_passes}
use Rattle.shop_desk.proofs.desk.Desk.seek_unload.Goals as goal

pub unreachable-requires : goal.unreachable-requires
unreachable-requires g c =
    let alone =
    exclusive_state g.M.Matter.facts g.met.M.Matter.same_is_equal 64 c.args.self.now.state c.act.ensures.after in
    let done =
    c.act.ensures.passed (seek_unload_passes g.M.Matter.facts c.args.self.now.state c.args.seat alone
    c.requires.shares c.requires.busy) in
    let refused = c.in-Refused.is in cc

pub returns-clause-row : goal.returns-clause-row
returns-clause-row g c =
    c.act.ensures.row c.in-Done.is sharing_seat c.requires.shares
    ∙ (λ i. with_room (seeking_unload_seat (length c.args.self.now.state.history)) (c.entries_of-entries.ensures i - 1)
    (c.values_of-values.ensures i))
