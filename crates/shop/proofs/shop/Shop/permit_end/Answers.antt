use Rattle.std.proofs.Common.{◌≡◌, ◌-◌, ap, ◌∙◌, subst}
use Rattle.system_events.specs.declared.event.Kept.TheVariants.{Retake}
use Rattle.shop_base.specs.Rows.{with_room, running_seat}
use Rattle.shop_base.specs.Passes.{Made}
use Rattle.shop.proofs.Turns.{made_later}
use Rattle.shop.proofs.shop.Shop.permit_end.Goals as goal

pub returns-then-try_retake-clause-made : goal.returns-then-try_retake-clause-made
returns-then-try_retake-clause-made g c =
    let number : c.tries.pass.number ≡ c.args.pass.now.number = ap (λ p. p.number) c.tries.invariant.same in
    made_later c.args.pass.now.number Retake c.args.pass.now.seen c.tries.pass.seen c.try_retake.new.pass.seen
    c.tries.invariant.lags
    (subst (λ n. Made n Retake c.tries.pass.seen c.try_retake.new.pass.seen) number
    (c.try_retake.ensures.made c.if-try_retake.true).1)

pub returns-then-try_retake-clause-row : goal.returns-then-try_retake-clause-row
returns-then-try_retake-clause-row g c = λ begun at.
    let rows : c.tries.pass.row ≡ c.args.pass.now.row = ap (λ p. p.row) c.tries.invariant.same in
    c.try_retake.ensures.row c.if-try_retake.true begun (ap (λ r. r.seat) rows ∙ at)
    ∙ (λ i. with_room (running_seat begun) ((rows i).entries - 1) (rows i).values)
