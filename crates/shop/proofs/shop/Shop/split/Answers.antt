use Rattle.shop.proofs.Turns.{held_split}
use Rattle.shop.proofs.shop.Shop.split.Goals as goal

pub invariant_of-result : goal.invariant_of-result
invariant_of-result g c =
    held_split g.M.Matter.facts c.pass.inside.ticket c.in_ok-ticket.ticket c.pass.inside.generation
    c.pass.inside.sought c.pass.invariant c.in_ok-ticket.ensures.given c.in_ok-ticket.ensures.unseen
