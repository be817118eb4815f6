use Rattle.shop.proofs.Turns.{held_left}
use Rattle.shop.proofs.shop.Shop.done_running.Goals as goal

pub invariant_of-pass : goal.invariant_of-pass
invariant_of-pass g c =
    held_left g.M.Matter.facts c.unshare.new.self c.enter-desk.new.ticket c.leave.new.ticket c.leave.new.generation
    c.pass.inside.sought c.leave.ensures.left c.leave.ensures.after c.leave.ensures.generation
