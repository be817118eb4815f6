use Rattle.std.proofs.Common.{◌≡◌, ap, subst}
use Rattle.system_events.specs.declared.event.Kept.TheVariants.{Resume}
use Rattle.shop_base.specs.Passes.{Made}
use Rattle.shop.proofs.Turns.{made_later}
use Rattle.shop.proofs.shop.Shop.await_resume.Goals as goal

pub returns-then-try_resume-clause-made : goal.returns-then-try_resume-clause-made
returns-then-try_resume-clause-made g c =
    let number : c.tries.pass.number ≡ c.args.pass.now.number = ap (λ p. p.number) c.tries.invariant.same in
    made_later c.args.pass.now.number Resume c.args.pass.now.seen c.tries.pass.seen c.try_resume.new.pass.seen
    c.tries.invariant.lags
    (subst (λ n. Made n Resume c.tries.pass.seen c.try_resume.new.pass.seen) number
    (c.try_resume.ensures.made c.if-try_resume.true).1)
