use Rattle.std.proofs.Common.{◌-◌, ap, ◌∙◌}
use Rattle.system_events.specs.declared.event.Kept.TheVariants.{Resume}
use Rattle.shop_base.specs.Rows.{with_room, calm_seat}
use Rattle.shop.proofs.Turns.{held_left, gains_one, moved_turn, made_turn, turn_rows, unmoved}
use Rattle.shop.proofs.shop.Shop.try_resume.Goals as goal

pub invariant_of-pass : goal.invariant_of-pass
invariant_of-pass g c =
    held_left g.M.Matter.facts c.resume-resumed.new.self c.enter-desk.new.ticket c.leave.new.ticket
    c.leave.new.generation c.pass.inside.sought c.leave.ensures.left c.leave.ensures.after c.leave.ensures.generation

pub leave-requires-clause-entry : goal.leave-requires-clause-entry
leave-requires-clause-entry g c =
    gains_one c.enter-desk.result c.resume-resumed.new.self c.pass.inside.ticket c.enter-desk.new.ticket
    c.number-number.result c.enter-desk.ensures.turn c.number-number.ensures.same c.resume-resumed.ensures.gained

pub returns-clause-made : goal.returns-clause-made
returns-clause-made g c =
    λ resumed.
    let rows = turn_rows c.enter-desk.result c.resume-resumed.new.self c.pass.inside.ticket c.enter-desk.new.ticket
    c.leave.new.ticket c.pass.inside.sought c.args.pass.now c.number-number.result c.pass.view_is
    c.enter-desk.ensures.turn c.leave.ensures.left c.enter-desk.ensures.row c.number-number.ensures.same in (
      moved_turn c.enter-desk.result c.resume-resumed.new.self c.pass.inside.ticket c.enter-desk.new.ticket
          c.leave.new.ticket c.pass.inside.sought c.args.pass.now c.number-number.result
          _ c.pass.view_is c.enter-desk.ensures.turn c.leave.ensures.left c.number-number.ensures.same
          (c.resume-resumed.ensures.row resumed
          ∙ ap (λ r. with_room (calm_seat r.seat.running) (r.entries - 1) r.values) rows.1),
      made_turn c.enter-desk.result c.resume-resumed.new.self c.pass.inside.ticket c.enter-desk.new.ticket
          c.leave.new.ticket c.pass.inside.sought c.args.pass.now c.number-number.result Resume
          c.pass.view_is c.leave.ensures.left c.enter-desk.ensures.seen c.number-number.ensures.same
          (c.resume-resumed.ensures.entry resumed),
    )

pub returns-clause-busy : goal.returns-clause-busy
returns-clause-busy g c =
    λ busy.
    unmoved c.enter-desk.result c.resume-resumed.new.self c.pass.inside.ticket c.enter-desk.new.ticket
    c.leave.new.ticket c.pass.inside.sought c.args.pass.now c.pass.view_is c.enter-desk.ensures.turn
    c.leave.ensures.left c.enter-desk.ensures.seen c.enter-desk.ensures.row (c.resume-resumed.ensures.busy busy)
