use Rattle.std.proofs.Common.{◌-◌, sym, ap, ◌∙◌}
use Rattle.shop_base.specs.Rows.{with_room, calm_seat, leaving_seat, exclusive_seat}
use Rattle.shop_desk.specs.Ledgers.{desk_row}
use Rattle.shop.proofs.Turns.{held_left, moved_turn, turn_rows}
use Rattle.shop.proofs.shop.Shop.release.Goals as goal

pub invariant_of-pass : goal.invariant_of-pass
invariant_of-pass g c =
    held_left g.M.Matter.facts c.release-free.new.self c.enter-desk.new.ticket c.leave.new.ticket
    c.leave.new.generation c.pass.inside.sought c.leave.ensures.left c.leave.ensures.after c.leave.ensures.generation

pub returns-clause-free : goal.returns-clause-free
returns-clause-free g c =
    λ free.
    let rows = turn_rows c.enter-desk.result c.release-free.new.self c.pass.inside.ticket c.enter-desk.new.ticket
    c.leave.new.ticket c.pass.inside.sought c.args.pass.now c.number-number.result c.pass.view_is
    c.enter-desk.ensures.turn c.leave.ensures.left c.enter-desk.ensures.row c.number-number.ensures.same in
    moved_turn c.enter-desk.result c.release-free.new.self c.pass.inside.ticket c.enter-desk.new.ticket
    c.leave.new.ticket c.pass.inside.sought c.args.pass.now c.number-number.result
    _ c.pass.view_is c.enter-desk.ensures.turn c.leave.ensures.left c.number-number.ensures.same
    (c.release-free.ensures.free free
    ∙ ap (λ r. with_room (calm_seat r.seat.running) (r.entries - 2) r.values) rows.1)

pub returns-clause-waits : goal.returns-clause-waits
returns-clause-waits g c =
    λ waits.
    let rows = turn_rows c.enter-desk.result c.release-free.new.self c.pass.inside.ticket c.enter-desk.new.ticket
    c.leave.new.ticket c.pass.inside.sought c.args.pass.now c.number-number.result c.pass.view_is
    c.enter-desk.ensures.turn c.leave.ensures.left c.enter-desk.ensures.row c.number-number.ensures.same in
    moved_turn c.enter-desk.result c.release-free.new.self c.pass.inside.ticket c.enter-desk.new.ticket
    c.leave.new.ticket c.pass.inside.sought c.args.pass.now c.number-number.result
    _ c.pass.view_is c.enter-desk.ensures.turn c.leave.ensures.left c.number-number.ensures.same
    (c.release-free.ensures.waits waits
    ∙ ap (λ r. with_room (leaving_seat r.seat.running) (r.entries - 1) r.values) rows.1)

pub release-free-requires-clause-exclusive : goal.release-free-requires-clause-exclusive
release-free-requires-clause-exclusive g c =
    let row = ap (λ n. desk_row c.enter-desk.result n) c.number-number.ensures.same
    ∙ (c.enter-desk.ensures.row ∙ ap (λ p. p.row) c.pass.view_is) in (
      c.requires.exclusive.0,
      ap (λ r. r.seat) row
          ∙ (c.requires.exclusive.1
          ∙ ap (λ r. exclusive_seat r.seat.running c.requires.exclusive.0) (sym row)),
    )
