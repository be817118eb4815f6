use Rattle.std.proofs.Common.{◌≡◌, ap, subst}
use Rattle.system_events.specs.declared.event.Kept.TheVariants.{Share}
use Rattle.shop_base.specs.Passes.{Made}
use Rattle.shop.proofs.Turns.{made_later}
use Rattle.shop.proofs.shop.Shop.await_share.Goals as goal

pub returns-then-try_share-clause-made : goal.returns-then-try_share-clause-made
returns-then-try_share-clause-made g c =
    let number : c.tries.pass.number ≡ c.args.pass.now.number = ap (λ p. p.number) c.tries.invariant.same in
    made_later c.args.pass.now.number Share c.args.pass.now.seen c.tries.pass.seen c.try_share.new.pass.seen
    c.tries.invariant.lags
    (subst (λ n. Made n Share c.tries.pass.seen c.try_share.new.pass.seen) number
    (c.try_share.ensures.made c.if-try_share.true).1)
