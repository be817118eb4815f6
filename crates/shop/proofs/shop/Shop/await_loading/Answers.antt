use Rattle.std.proofs.Common.{◌≡◌, ◌-◌, None, ap, ◌∙◌, subst}
use Rattle.turn_lock.specs.Entries.{Lags}
use Rattle.system_events.specs.declared.event.Kept.TheVariants.{Take}
use Rattle.system_events.specs.declared.event.Want.TheVariants.{Load}
use Rattle.shop_base.specs.Rows.{with_room, loading_seat}
use Rattle.shop_base.specs.Passes.{Made, moved, seat_of}
use Rattle.shop.proofs.Turns.{made_later, lags_later}
use Rattle.shop.proofs.shop.Shop.await_loading.Goals as goal

pub returns-then-try_loading-clause-made : goal.returns-then-try_loading-clause-made
returns-then-try_loading-clause-made g c =
    let number : c.tries.pass.number ≡ c.args.pass.now.number = ap (λ p. p.number) c.tries.invariant.same in
    made_later c.args.pass.now.number (Take (Load c.args.task.now)) c.args.pass.now.seen c.tries.pass.seen
    c.try_loading.new.pass.seen c.tries.invariant.lags
    (subst (λ n. Made n (Take (Load c.args.task.now)) c.tries.pass.seen c.try_loading.new.pass.seen) number
    (c.try_loading.ensures.taken c.if-try_loading.true).1)

pub returns-then-try_loading-clause-row : goal.returns-then-try_loading-clause-row
returns-then-try_loading-clause-row g c =
    λ begun opened at.
    let rows : c.tries.pass.row ≡ c.args.pass.now.row = ap (λ p. p.row) c.tries.invariant.same in
    c.try_loading.ensures.row c.if-try_loading.true begun opened (ap (λ r. r.seat) rows ∙ at)
    ∙ (λ i. with_room (loading_seat begun opened) ((rows i).entries - 1) (rows i).values)

pub tries-preserved : goal.tries-preserved
tries-preserved g c =
    let same = c.tries.invariant.same in
    let waits = c.try_loading.ensures.waits c.if-try_loading.false in
    let number : c.tries.pass.number ≡ c.args.pass.now.number = ap (λ p. p.number) same in
    record {
      same = waits.0 ∙ (λ i. moved (same i) (same i).row c.try_loading.new.pass.seen);
      lags = lags_later c.args.pass.now.number c.args.pass.now.seen c.tries.pass.seen c.try_loading.new.pass.seen
          c.tries.invariant.lags
          (subst (λ n. Lags seat_of n c.tries.pass.seen c.try_loading.new.pass.seen) number waits.1);
      seeks = waits.2;
    }
