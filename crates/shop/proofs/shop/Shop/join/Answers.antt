use Rattle.std.proofs.Common.{ap, subst}
use Rattle.turn_lock.specs.Entries.{Begins}
use Rattle.shop.proofs.Turns.{held_joined}
use Rattle.shop.proofs.shop.Shop.join.Goals as goal

pub invariant_of-pass : goal.invariant_of-pass
invariant_of-pass g c =
    held_joined g.M.Matter.facts c.pass.inside.ticket c.other.inside.ticket c.join.new.ticket c.pass.inside.generation
    c.other.inside.generation c.max-pass-inside.result c.pass.inside.sought c.other.inside.sought c.pass.invariant
    c.other.invariant c.join.ensures.longer c.join.ensures.mine c.join.ensures.theirs c.max-pass-inside.ensures

pub returns-clause-theirs : goal.returns-clause-theirs
returns-clause-theirs g c =
    subst (λ l. Begins l c.join.new.ticket.seen) (ap (λ p. p.seen) c.other.view_is) c.join.ensures.theirs
