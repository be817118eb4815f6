use Rattle.std.proofs.Common.{[], ◌∷◌, ◌++◌, ◌∙◌}
use Rattle.system_events.specs.declared.event.Kept.TheVariants.{Reload}
use Rattle.system_core.proofs.Fields.{kept_new}
use Rattle.system_core.proofs.system.System.new.Goals as goal

pub invariant_of-result-2 : goal.invariant_of-result-2
invariant_of-result-2 g c =
    (kept_new g.M.Matter.facts _ _ _ _ _ c.args.seats
    (c.in_ok-push.ensures.items
    ∙ (λ i. c.new-entries.ensures.items i ++ (record { seat = 0; kept = Reload (c.in_ok-program.ensures i) }) ∷ []))
    (c.seats.view_is ∙ c.in_ok-seats.ensures) c.new-2.ensures.items c.in_ok-new.ensures
    (λ i. record {
      generation = 0;
      program = (c.share.ensures ∙ c.in_ok-program.ensures) i;
      requests = 0;
      reply_bytes = 0;
      changed_bytes = 0;
    })).0
