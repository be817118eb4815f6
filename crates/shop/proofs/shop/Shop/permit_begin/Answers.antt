use Rattle.std.proofs.Common.{◌-◌, ap, ◌∙◌}
use Rattle.shop_base.specs.Rows.{with_room, yielding_seat}
use Rattle.shop.proofs.Turns.{held_left, turn_rows}
use Rattle.shop.proofs.shop.Shop.permit_begin.Goals as goal

pub invariant_of-pass : goal.invariant_of-pass
invariant_of-pass g c =
    held_left g.M.Matter.facts c.yield_share.new.self c.enter-desk.new.ticket c.leave.new.ticket c.leave.new.generation
    c.pass.inside.sought c.leave.ensures.left c.leave.ensures.after c.leave.ensures.generation

pub returns-clause-row : goal.returns-clause-row
returns-clause-row g c = λ begun at.
    let rows = turn_rows c.enter-desk.result c.yield_share.new.self c.pass.inside.ticket c.enter-desk.new.ticket
    c.leave.new.ticket c.pass.inside.sought c.args.pass.now c.number-number.result c.pass.view_is
    c.enter-desk.ensures.turn c.leave.ensures.left c.enter-desk.ensures.row c.number-number.ensures.same in
    rows.0
    ∙ (c.yield_share.ensures.row begun (ap (λ r. r.seat) rows.1 ∙ at)
    ∙ (λ i. with_room (yielding_seat begun) ((rows.1 i).entries - 1) (rows.1 i).values))
