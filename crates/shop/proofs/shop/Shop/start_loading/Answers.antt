use Rattle.std.specs.Prelude.{Ok}
use Rattle.std.proofs.Common.{◌≡◌, ◌+◌, ◌-◌, length, Some, Contains, sym, ap, ◌∙◌, subst}
use Rattle.system_events.specs.declared.event.Kept.TheVariants.{Take, Seek}
use Rattle.system_events.specs.declared.event.Want.TheVariants.{Load}
use Rattle.system_events.specs.State.{section_want}
use Rattle.shop_base.specs.Rows.{IsSeeking, seeking_seat, with_room}
use Rattle.shop_base.specs.Passes.{seen_state, moved, Made}
use Rattle.shop.proofs.shop.Shop.start_loading.Goals as goal

pub returns-in-Taken-clause-taken : goal.returns-in-Taken-clause-taken
returns-in-Taken-clause-taken g c = λ _.
    let facts = g.M.Matter.facts in
    let task = c.in_ok-first.ensures in
    let begun = c.requires.runs.0 in
    let at = c.requires.runs.1 in
    let is = ap Ok c.in-Taken.is in
    let same = c.in_ok-loading.ensures.same in (
      same,
      subst (λ t. Made c.args.pass.now.number (Take (Load t)) c.args.pass.now.seen c.first_load.new.pass.seen) task
          (c.in_ok-loading.ensures.taken is),
      record {
        loads = (begun, (_, ap (λ r. r.seat) (c.in_ok-loading.ensures.taken_row is begun at)));
        section = ap (section_want (seen_state facts c.first_load.new.pass)) (ap (λ p. p.number) same)
            ∙ (c.in_ok-loading.ensures.taken_section is ∙ ap (λ t. Some (Load t)) task);
      },
    )

pub returns-in-Taken-clause-taken_row : goal.returns-in-Taken-clause-taken_row
returns-in-Taken-clause-taken_row g c = λ _. c.in_ok-loading.ensures.taken_row (ap Ok c.in-Taken.is)

pub returns-in-Seeking-clause-seeking : goal.returns-in-Seeking-clause-seeking
returns-in-Seeking-clause-seeking g c = λ _.
    let facts = g.M.Matter.facts in
    let first = c.in_ok-first.ensures in
    let begun = c.requires.runs.0 in
    let at = c.requires.runs.1 in
    let is = ap Ok c.in-Seeking.is in
    let same = c.in_ok-loading.ensures.same in
    let opened = subst (λ p. p ≡ moved c.args.pass.now p.row p.seen) (sym c.pass.view_is) same in (
      (λ i. record (opened i) { sought = Some (c.in_ok-sought.ensures i) }),
      subst (λ p. Made c.args.pass.now.number (Seek (Load c.args.task.now)) c.args.pass.now.seen p.seen)
          (sym c.pass.view_is)
          (subst (λ t. Made c.args.pass.now.number (Seek (Load t)) c.args.pass.now.seen c.first_load.new.pass.seen)
          first (c.in_ok-loading.ensures.seeking is)),
      record {
        seeks = subst (λ p. IsSeeking p.row.seat) (sym c.pass.view_is)
            (begun, (_, ap (λ r. r.seat) (c.in_ok-loading.ensures.seeking_row is begun at)));
        kept = ap Some c.in_ok-sought.ensures;
        section = subst (λ p. section_want (seen_state facts p) p.number ≡ Some (Load c.args.task.now))
            (sym c.pass.view_is)
            (ap (section_want (seen_state facts c.first_load.new.pass)) (ap (λ p. p.number) same)
            ∙ (c.in_ok-loading.ensures.seeking_section is ∙ ap (λ t. Some (Load t)) first));
        is_task = subst (λ p. Contains (facts.tasks (seen_state facts p).counts.program) c.args.task.now)
            (sym c.pass.view_is)
            (subst (λ t. Contains (facts.tasks (seen_state facts c.first_load.new.pass).counts.program) t) first
            (c.in_ok-loading.ensures.seeking_task is));
      },
    )

pub returns-in-Seeking-clause-seeking_row : goal.returns-in-Seeking-clause-seeking_row
returns-in-Seeking-clause-seeking_row g c = λ _ begun at.
    subst (λ p. p.row ≡ with_room (seeking_seat begun (length p.seen - 1)) (c.args.pass.now.row.entries + 3)
    c.args.pass.now.row.values) (sym c.pass.view_is)
    (c.in_ok-loading.ensures.seeking_row (ap Ok c.in-Seeking.is) begun at)
