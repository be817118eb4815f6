use Rattle.std.proofs.Common.{inl}
use Rattle.shop.proofs.Turns.{held_left, gains_one, lags_turn, aside_history}
use Rattle.shop.proofs.shop.Shop.room.Goals as goal

pub invariant_of-pass : goal.invariant_of-pass
invariant_of-pass g c =
    held_left g.M.Matter.facts c.set_aside-room.new.self c.enter-desk.new.ticket c.leave.new.ticket
    c.leave.new.generation c.pass.inside.sought c.leave.ensures.left c.leave.ensures.after c.leave.ensures.generation

pub leave-requires-clause-entry : goal.leave-requires-clause-entry
leave-requires-clause-entry g c =
    gains_one c.enter-desk.result c.set_aside-room.new.self c.pass.inside.ticket c.enter-desk.new.ticket
    c.number-number.result c.enter-desk.ensures.turn c.number-number.ensures.same
    (inl (aside_history c.set_aside-room.result c.enter-desk.result c.set_aside-room.new.self _ _ _
    c.set_aside-room.ensures.ok c.set_aside-room.ensures.err))

pub returns-clause-seen : goal.returns-clause-seen
returns-clause-seen g c =
    let history = aside_history c.set_aside-room.result c.enter-desk.result c.set_aside-room.new.self _ _ _
    c.set_aside-room.ensures.ok c.set_aside-room.ensures.err in
    lags_turn c.enter-desk.result c.set_aside-room.new.self c.pass.inside.ticket c.enter-desk.new.ticket
    c.leave.new.ticket c.pass.inside.sought c.args.pass.now c.pass.view_is c.leave.ensures.left
    c.enter-desk.ensures.seen history
