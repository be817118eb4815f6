use Rattle.std.proofs.Common.{◌≡◌, ◌-◌, [], ◌∷◌, Some, None, Contains, sym, ap, ◌∙◌, subst}
use Rattle.system_events.specs.declared.event.Kept.TheVariants.{Take}
use Rattle.system_events.specs.declared.event.Want.TheVariants.{Load}
use Rattle.system_events.specs.State.{section_want}
use Rattle.system_events.specs.Legal.{IsLegal}
use Rattle.shop_base.specs.Rows.{with_room, loading_seat}
use Rattle.shop_base.specs.Passes.{entry, seen_state, IsPass}
use Rattle.shop.specs.Held.{pass_view}
use Rattle.shop.specs.Seeking.{SeeksTask, LoadsTask}
use Rattle.shop.proofs.Turns.{gains_one, made_turn, moved_turn, turn_rows, unmoved}
use Rattle.shop.proofs.Then.{task_then, section_then}
use Rattle.shop.proofs.Loads.{state_left, section_grown, runs_then, seeks_later}
use Rattle.shop.proofs.shop.Shop.try_loading.Goals as goal

pub leave-requires-clause-entry : goal.leave-requires-clause-entry
leave-requires-clause-entry g c =
    gains_one c.enter-desk.result c.take_load-back.new.desk c.pass.inside.ticket c.enter-desk.new.ticket
    c.number-number.result c.enter-desk.ensures.turn c.number-number.ensures.same c.take_load-back.ensures.gained

pub take_load-back-requires-clause-section : goal.take_load-back-requires-clause-section
take_load-back-requires-clause-section g c =
    let facts = g.M.Matter.facts in
    let was = subst (λ p. section_want (seen_state facts p) p.number ≡ Some (Load c.args.task.now))
    (sym c.pass.view_is) c.requires.seeks.section in
    let then = section_then facts g.met.M.Matter.same_is_equal c.enter-desk.result c.pass.inside.ticket.number
    c.pass.inside.ticket.seen c.pass.invariant.pass.legal c.tells_legal.ensures.after c.enter-desk.ensures.seen
    (Load c.args.task.now) was in
    subst (λ n. section_want c.enter-desk.result.state n ≡ Some (Load c.args.task.now))
    (sym c.number-number.ensures.same) then

pub take_load-back-requires-clause-task : goal.take_load-back-requires-clause-task
take_load-back-requires-clause-task g c =
    let facts = g.M.Matter.facts in
    let runs = runs_then facts _ c.requires.seeks.seeks.0 c.pass.invariant.pass
    (ap (λ p. p.row.seat.running) c.pass.view_is ∙ ap (λ r. r.running) c.requires.seeks.seeks.1.1) in
    let was = subst (λ p. Contains (facts.tasks (seen_state facts p).counts.program) c.args.task.now)
    (sym c.pass.view_is) c.requires.seeks.is_task in
    task_then facts g.met.M.Matter.same_is_equal c.enter-desk.result c.pass.inside.ticket.number
    c.pass.inside.ticket.seen c.pass.invariant.pass.legal c.tells_legal.ensures.after c.enter-desk.ensures.seen
    c.requires.seeks.seeks.0 c.args.task.now runs was

pub returns-in-None-clause-taken : goal.returns-in-None-clause-taken
returns-in-None-clause-taken g c =
    λ _.
    let facts = g.M.Matter.facts in
    let number = c.number-number.ensures.same ∙ ap (λ p. p.number) c.pass.view_is in
    let rows = turn_rows c.enter-desk.result c.take_load-back.new.desk c.pass.inside.ticket c.enter-desk.new.ticket
    c.leave.new.ticket c.pass.inside.sought c.args.pass.now c.number-number.result c.pass.view_is
    c.enter-desk.ensures.turn c.leave.ensures.left c.enter-desk.ensures.row c.number-number.ensures.same in
    let same = moved_turn c.enter-desk.result c.take_load-back.new.desk c.pass.inside.ticket c.enter-desk.new.ticket
    c.leave.new.ticket c.pass.inside.sought c.args.pass.now c.number-number.result
    c.leave.new.ticket.row c.pass.view_is c.enter-desk.ensures.turn c.leave.ensures.left c.number-number.ensures.same
    (sym rows.0) in
    let whole = ap (pass_view c.leave.new.ticket) c.replace-sought.ensures.after
    ∙ (λ i. record (same i) { sought = None }) in
    let begun = c.requires.seeks.seeks.0 in
    let opened = c.requires.seeks.seeks.1.0 in
    let at = ap (λ r. r.seat) rows.1 ∙ c.requires.seeks.seeks.1.1 in
    let row = c.take_load-back.ensures.row c.in-None.is begun opened at in
    let was = subst (λ p. section_want (seen_state facts p) p.number ≡ Some (Load c.args.task.now))
    (sym c.pass.view_is) c.requires.seeks.section in
    let then = section_then facts g.met.M.Matter.same_is_equal c.enter-desk.result c.pass.inside.ticket.number
    c.pass.inside.ticket.seen c.pass.invariant.pass.legal c.tells_legal.ensures.after c.enter-desk.ensures.seen
    (Load c.args.task.now) was in
    let grown = section_grown c.enter-desk.result.state c.take_load-back.new.desk.state c.number-number.result
    (Load c.args.task.now)
    (entry c.number-number.result (Take (Load c.args.task.now)) ∷ [], c.take_load-back.ensures.taken c.in-None.is)
    (ap (λ r. r.seat.section) row ∙ sym (ap (λ r. r.section) at))
    (subst (λ n. section_want c.enter-desk.result.state n ≡ Some (Load c.args.task.now))
    (sym c.number-number.ensures.same) then) in (
      whole,
      made_turn c.enter-desk.result c.take_load-back.new.desk c.pass.inside.ticket c.enter-desk.new.ticket
          c.leave.new.ticket c.pass.inside.sought c.args.pass.now c.number-number.result (Take (Load c.args.task.now))
          c.pass.view_is c.leave.ensures.left c.enter-desk.ensures.seen c.number-number.ensures.same
          (c.take_load-back.ensures.taken c.in-None.is),
      subst (λ p. LoadsTask facts p c.args.task.now) (sym whole) (record {
        loads = (begun, (opened, ap (λ r. r.seat) (rows.0 ∙ row)));
        section = (λ i. section_want ((state_left g.M.Matter.facts c.take_load-back.new.desk
            c.enter-desk.new.ticket c.leave.new.ticket
            c.leave.ensures.left c.leave.ensures.after) i) (sym number i)) ∙ grown;
      }),
    )

pub returns-in-None-clause-row : goal.returns-in-None-clause-row
returns-in-None-clause-row g c =
    λ _ begun opened at.
    let rows = turn_rows c.enter-desk.result c.take_load-back.new.desk c.pass.inside.ticket c.enter-desk.new.ticket
    c.leave.new.ticket c.pass.inside.sought c.args.pass.now c.number-number.result c.pass.view_is
    c.enter-desk.ensures.turn c.leave.ensures.left c.enter-desk.ensures.row c.number-number.ensures.same in
    rows.0
    ∙ (c.take_load-back.ensures.row c.in-None.is begun opened (ap (λ r. r.seat) rows.1 ∙ at)
    ∙ (λ i. with_room (loading_seat begun opened) ((rows.1 i).entries - 1) (rows.1 i).values))

pub returns-in-Some-clause-waits : goal.returns-in-Some-clause-waits
returns-in-Some-clause-waits g c =
    λ _.
    let facts = g.M.Matter.facts in
    let back = c.take_load-back.ensures.back c.in-Some.kept c.in-Some.is in
    let whole = unmoved c.enter-desk.result c.take_load-back.new.desk c.pass.inside.ticket c.enter-desk.new.ticket
    c.leave.new.ticket c.pass.inside.sought c.args.pass.now c.pass.view_is c.enter-desk.ensures.turn
    c.leave.ensures.left c.enter-desk.ensures.seen c.enter-desk.ensures.row back.1 in
    let kept : c.pass.inside.sought ≡ Some c.in-Some.kept =
    ap (λ p. p.sought) c.pass.view_is ∙ (c.requires.seeks.kept ∙ ap Some (sym back.0)) in
    let same = ap (pass_view c.leave.new.ticket) (sym kept) ∙ whole.0 in
    let legal = subst (IsLegal facts 64) (sym (ap (λ t. t.seen) c.leave.ensures.left)) c.leave.ensures.after.legal in (
      same,
      whole.1,
      subst (λ p. SeeksTask facts p c.args.task.now) (sym same)
          (seeks_later facts g.met.M.Matter.same_is_equal c.args.pass.now c.leave.new.ticket.seen c.args.task.now
          (subst (IsPass facts) c.pass.view_is c.pass.invariant.pass) legal whole.1 c.requires.seeks),
    )
