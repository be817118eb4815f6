use Rattle.shop.proofs.Turns.{held_left, gains_one}
use Rattle.shop.proofs.shop.Shop.try_share.Goals as goal

pub invariant_of-pass : goal.invariant_of-pass
invariant_of-pass g c =
    held_left g.M.Matter.facts c.share-shared.new.self c.enter-desk.new.ticket c.leave.new.ticket c.leave.new.generation
    c.pass.inside.sought c.leave.ensures.left c.leave.ensures.after c.leave.ensures.generation

pub leave-requires-clause-entry : goal.leave-requires-clause-entry
leave-requires-clause-entry g c =
    gains_one c.enter-desk.result c.share-shared.new.self c.pass.inside.ticket c.enter-desk.new.ticket
    c.number-number.result c.enter-desk.ensures.turn c.number-number.ensures.same c.share-shared.ensures.gained
