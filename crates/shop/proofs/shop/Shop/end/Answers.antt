use Rattle.std.proofs.Common.{sym, subst}
use Rattle.system_events.specs.declared.event.Kept.TheVariants.{End}
use Rattle.system_events.specs.Steps.{Condition}
use Rattle.shop_base.specs.Passes.{seen_state}
use Rattle.shop.proofs.Turns.{held_left}
use Rattle.shop.proofs.Then.{reply_then}
use Rattle.shop.proofs.shop.Shop.end.Goals as goal

pub invariant_of-pass : goal.invariant_of-pass
invariant_of-pass g c =
    held_left g.M.Matter.facts c.end.new.self c.enter-desk.new.ticket c.leave.new.ticket c.leave.new.generation
    c.pass.inside.sought c.leave.ensures.left c.leave.ensures.after c.leave.ensures.generation

pub end-requires-clause-reply : goal.end-requires-clause-reply
end-requires-clause-reply g c =
    let facts = g.M.Matter.facts in
    let was = subst (λ p. Condition facts (seen_state facts p) p.number (End c.args.reply)) (sym c.pass.view_is)
    c.requires.reply in
    let then = reply_then facts g.met.M.Matter.same_is_equal c.enter-desk.result c.pass.inside.ticket.number
    c.pass.inside.ticket.seen c.pass.invariant.pass.legal c.tells_legal.ensures.after c.enter-desk.ensures.seen
    c.args.reply was in
    subst (λ n. Condition facts c.enter-desk.result.state n (End c.args.reply)) (sym c.number-number.ensures.same) then
