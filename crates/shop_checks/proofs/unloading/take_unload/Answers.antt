use Rattle.std.proofs.Common.{◌≡◌, true, ap, subst}
use Rattle.system_events.specs.declared.event.Kept.TheVariants.{Take}
use Rattle.system_events.specs.declared.event.Want.TheVariants.{Unload}
use Rattle.shop_base.specs.Passes.{Made}
use Rattle.shop_checks.proofs.Outcomes.{sought_is, sought_row_is}
use Rattle.shop_checks.proofs.unloading.take_unload.Goals as goal

pub returns-in-Ok-Seeking-clause-taken : goal.returns-in-Ok-Seeking-clause-taken
returns-in-Ok-Seeking-clause-taken g c = λ is.
    let sought = c.open_check.ensures.seeking
    (let at = c.in-Ok-Seeking.is in let seeks = c.in-Ok-Seeking.field-0-is in cc) in
    let number : c.open_check.new.pass.number ≡ c.args.pass.now.number =
    ap (λ p. p.number) c.open_check.ensures.same in (
      sought_row_is c.args.pass.now.row c.open_check.new.pass.row c.await_unload.new.pass.row sought.0
          c.await_unload.ensures.row,
      (
        true,
        sought_is g.M.Matter.facts g.M.Reloads.sources c.args.pass.now.number c.args.stamps.now c.args.pass.now.seen
            c.open_check.new.pass.seen c.await_unload.new.pass.seen sought.1
            (subst (λ n. Made n (Take Unload) c.open_check.new.pass.seen c.await_unload.new.pass.seen) number
            c.await_unload.ensures.made),
      ),
    )
