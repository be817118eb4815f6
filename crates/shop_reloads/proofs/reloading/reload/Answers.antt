use Rattle.std.proofs.Common.{sym, ap, ◌∙◌, subst}
use Rattle.system_events.specs.Guards.{reload_limits}
use Rattle.shop_desk.specs.Ledgers.{setting_aside}
use Rattle.shop_desk.proofs.Acting.{set_back}
use Rattle.reload_checks.specs.Checks.{EntersNone}
use Rattle.shop_reloads.proofs.Refusals.{if_err_map}
use Rattle.shop_reloads.proofs.reloading.reload.Goals as goal

pub returns-in-Ok-clause-same : goal.returns-in-Ok-clause-same
returns-in-Ok-clause-same g c = λ is.
    let seat = c.args.seat in
    let aside = c.in-Ok.ensures.ok in
    let same = c.reload_reserved.ensures.same is in (
      sym (ap (λ d. g.M.Matter.facts.same_stamps c.args.program d.state.counts.program) aside) ∙ same.0,
      same.1 ∙ ((λ i. setting_aside (aside i) seat (c.entries_of-entries.ensures i) (c.values_of-values.ensures i))
          ∙ set_back c.args.desk.now seat _ _),
    )

pub returns-in-Ok-clause-refused : goal.returns-in-Ok-clause-refused
returns-in-Ok-clause-refused g c =
    let seat = c.args.seat in
    let aside = c.in-Ok.ensures.ok in
    if_err_map c.reload_reserved.result _ _ (λ fault refused. (
      subst (λ d. EntersNone (reload_limits g.M.Matter.facts d.state.counts c.args.program) fault) aside refused.0,
      refused.1 ∙ ((λ i. setting_aside (aside i) seat (c.entries_of-entries.ensures i) (c.values_of-values.ensures i))
          ∙ set_back c.args.desk.now seat _ _),
    )) c.reload_reserved.ensures.refused
