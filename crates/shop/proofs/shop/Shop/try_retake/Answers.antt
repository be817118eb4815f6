use Rattle.std.proofs.Common.{◌-◌, ap, ◌∙◌}
use Rattle.shop_base.specs.Rows.{with_room, running_seat}
use Rattle.shop.proofs.Turns.{held_left, gains_one, turn_rows}
use Rattle.shop.proofs.shop.Shop.try_retake.Goals as goal

pub invariant_of-pass : goal.invariant_of-pass
invariant_of-pass g c =
    held_left g.M.Matter.facts c.retake-retaken.new.self c.enter-desk.new.ticket c.leave.new.ticket
    c.leave.new.generation
    c.pass.inside.sought c.leave.ensures.left c.leave.ensures.after c.leave.ensures.generation

pub leave-requires-clause-entry : goal.leave-requires-clause-entry
leave-requires-clause-entry g c =
    gains_one c.enter-desk.result c.retake-retaken.new.self c.pass.inside.ticket c.enter-desk.new.ticket
    c.number-number.result c.enter-desk.ensures.turn c.number-number.ensures.same c.retake-retaken.ensures.gained

pub returns-clause-row : goal.returns-clause-row
returns-clause-row g c = λ retaken begun at.
    let rows = turn_rows c.enter-desk.result c.retake-retaken.new.self c.pass.inside.ticket c.enter-desk.new.ticket
    c.leave.new.ticket c.pass.inside.sought c.args.pass.now c.number-number.result c.pass.view_is
    c.enter-desk.ensures.turn c.leave.ensures.left c.enter-desk.ensures.row c.number-number.ensures.same in
    rows.0
    ∙ (c.retake-retaken.ensures.row retaken begun (ap (λ r. r.seat) rows.1 ∙ at)
    ∙ (λ i. with_room (running_seat begun) ((rows.1 i).entries - 1) (rows.1 i).values))
