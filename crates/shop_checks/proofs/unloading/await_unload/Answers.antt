use Rattle.std.proofs.Common.{◌≡◌, ◌-◌, ◌∙◌, ap, subst}
use Rattle.system_events.specs.declared.event.Kept.TheVariants.{Take}
use Rattle.system_events.specs.declared.event.Want.TheVariants.{Unload}
use Rattle.shop_base.specs.Rows.{unloading_seat, with_room}
use Rattle.shop_base.specs.Passes.{Made}
use Rattle.shop.proofs.Turns.{made_later}
use Rattle.shop_checks.proofs.unloading.await_unload.Goals as goal

pub returns-then-try_unload-clause-made : goal.returns-then-try_unload-clause-made
returns-then-try_unload-clause-made g c =
    let number : c.tries.pass.number ≡ c.args.pass.now.number = ap (λ p. p.number) c.tries.invariant.same in
    made_later c.args.pass.now.number (Take Unload) c.args.pass.now.seen c.tries.pass.seen c.try_unload.new.pass.seen
    c.tries.invariant.lags
    (subst (λ n. Made n (Take Unload) c.tries.pass.seen c.try_unload.new.pass.seen) number
    (c.try_unload.ensures.taken c.if-try_unload.true))

pub returns-then-try_unload-clause-row : goal.returns-then-try_unload-clause-row
returns-then-try_unload-clause-row g c = λ opened seeks.
    let row = ap (λ p. p.row) c.tries.invariant.same in
    c.try_unload.ensures.row c.if-try_unload.true opened (ap (λ r. r.seat) row ∙ seeks)
    ∙ (λ i. with_room (unloading_seat opened) ((row i).entries - 1) ((row i).values))
