use Rattle.std.proofs.Common.{◌≡◌, ◌+◌, ◌-◌, [], ◌∷◌, Some, length}
use Rattle.std.proofs.Common.{length-append, refl, sym, ap, ◌∙◌, subst, arith, Contains}
use Rattle.system_events.specs.declared.event.Kept.TheVariants.{Take, Seek}
use Rattle.system_events.specs.declared.event.Want.TheVariants.{Load}
use Rattle.system_events.specs.State.{is_in, section_want}
use Rattle.shop_base.specs.Rows.{with_room, loading_seat, seeking_seat}
use Rattle.shop_base.specs.Passes.{entry, seen_state}
use Rattle.shop_desk.proofs.Acting.{on_err_map}
use Rattle.shop.proofs.Turns.{held_left, gains_one, made_turn, unmoved, turn_rows}
use Rattle.shop.proofs.Then.{task_then}
use Rattle.shop.proofs.Loads.{state_left, state_pushed, section_opened, runs_then, place_of}
use Rattle.shop.proofs.shop.Shop.first_load.Goals as goal

pub invariant_of-pass : goal.invariant_of-pass
invariant_of-pass g c =
    held_left g.M.Matter.facts c.first_load-loading.new.self c.enter-desk.new.ticket c.leave.new.ticket
    c.leave.new.generation c.pass.inside.sought c.leave.ensures.left c.leave.ensures.after c.leave.ensures.generation

pub leave-requires-clause-entry : goal.leave-requires-clause-entry
leave-requires-clause-entry g c =
    gains_one c.enter-desk.result c.first_load-loading.new.self c.pass.inside.ticket c.enter-desk.new.ticket
    c.number-number.result c.enter-desk.ensures.turn c.number-number.ensures.same c.first_load-loading.ensures.gained

pub first_load-loading-requires-clause-task : goal.first_load-loading-requires-clause-task
first_load-loading-requires-clause-task g c =
    let facts = g.M.Matter.facts in
    let begun = c.requires.runs.0 in
    let was = subst (λ p. Contains (facts.tasks (seen_state facts p).counts.program) c.args.task)
    (sym c.pass.view_is) c.requires.task in
    let runs = runs_then facts _ begun c.pass.invariant.pass
    (ap (λ p. p.row.seat.running) c.pass.view_is ∙ ap (λ r. r.running) c.requires.runs.1) in
    task_then facts g.met.M.Matter.same_is_equal c.enter-desk.result c.pass.inside.ticket.number
    c.pass.inside.ticket.seen c.pass.invariant.pass.legal c.tells_legal.ensures.after c.enter-desk.ensures.seen
    begun c.args.task runs was

pub returns-clause-present : goal.returns-clause-present
returns-clause-present g c =
    λ is.
    let at = c.first_load-loading.ensures.present is in
    let same = unmoved c.enter-desk.result c.first_load-loading.new.self c.pass.inside.ticket c.enter-desk.new.ticket
    c.leave.new.ticket c.pass.inside.sought c.args.pass.now c.pass.view_is c.enter-desk.ensures.turn
    c.leave.ensures.left c.enter-desk.ensures.seen c.enter-desk.ensures.row at.1 in (
      ap (λ s. is_in g.M.Matter.facts c.args.task s.table) (state_left g.M.Matter.facts
          c.first_load-loading.new.self c.enter-desk.new.ticket c.leave.new.ticket
          c.leave.ensures.left c.leave.ensures.after
          ∙ ap (λ d. d.state) at.1)
          ∙ at.0,
      same.0,
      same.1,
    )

pub returns-clause-taken : goal.returns-clause-taken
returns-clause-taken g c =
    λ is.
    made_turn c.enter-desk.result c.first_load-loading.new.self c.pass.inside.ticket c.enter-desk.new.ticket
    c.leave.new.ticket c.pass.inside.sought c.args.pass.now c.number-number.result (Take (Load c.args.task))
    c.pass.view_is c.leave.ensures.left c.enter-desk.ensures.seen c.number-number.ensures.same
    (c.first_load-loading.ensures.taken is)

pub returns-clause-taken_row : goal.returns-clause-taken_row
returns-clause-taken_row g c =
    λ is begun at.
    let rows = turn_rows c.enter-desk.result c.first_load-loading.new.self c.pass.inside.ticket c.enter-desk.new.ticket
    c.leave.new.ticket c.pass.inside.sought c.args.pass.now c.number-number.result c.pass.view_is
    c.enter-desk.ensures.turn c.leave.ensures.left c.enter-desk.ensures.row c.number-number.ensures.same in
    let place = place_of c.enter-desk.result c.first_load-loading.new.self c.enter-desk.new.ticket c.leave.new.ticket
    c.number-number.result (Take (Load c.args.task)) c.leave.ensures.left (c.first_load-loading.ensures.taken is) in
    rows.0
    ∙ (c.first_load-loading.ensures.taken_row is begun (ap (λ r. r.seat) rows.1 ∙ at)
    ∙ (λ i. with_room (loading_seat begun (place i)) ((rows.1 i).entries + 2) (rows.1 i).values))

pub returns-clause-taken_section : goal.returns-clause-taken_section
returns-clause-taken_section g c =
    λ is.
    let rows = turn_rows c.enter-desk.result c.first_load-loading.new.self c.pass.inside.ticket c.enter-desk.new.ticket
    c.leave.new.ticket c.pass.inside.sought c.args.pass.now c.number-number.result c.pass.view_is
    c.enter-desk.ensures.turn c.leave.ensures.left c.enter-desk.ensures.row c.number-number.ensures.same in
    let row = c.first_load-loading.ensures.taken_row is c.requires.runs.0
    (ap (λ r. r.seat) rows.1 ∙ c.requires.runs.1) in
    let number = c.number-number.ensures.same ∙ ap (λ p. p.number) c.pass.view_is in
    (λ i. section_want ((state_left g.M.Matter.facts c.first_load-loading.new.self c.enter-desk.new.ticket
    c.leave.new.ticket
    c.leave.ensures.left c.leave.ensures.after) i) (sym number i))
    ∙ section_opened c.first_load-loading.new.self.state c.enter-desk.result.state.history c.number-number.result
    (Take (Load c.args.task)) (Load c.args.task) (c.first_load-loading.ensures.taken is) refl
    (ap (λ r. r.seat.section) row)

pub returns-clause-seeking : goal.returns-clause-seeking
returns-clause-seeking g c =
    λ is.
    made_turn c.enter-desk.result c.first_load-loading.new.self c.pass.inside.ticket c.enter-desk.new.ticket
    c.leave.new.ticket c.pass.inside.sought c.args.pass.now c.number-number.result (Seek (Load c.args.task))
    c.pass.view_is c.leave.ensures.left c.enter-desk.ensures.seen c.number-number.ensures.same
    (c.first_load-loading.ensures.seeking is)

pub returns-clause-seeking_row : goal.returns-clause-seeking_row
returns-clause-seeking_row g c =
    λ is begun at.
    let rows = turn_rows c.enter-desk.result c.first_load-loading.new.self c.pass.inside.ticket c.enter-desk.new.ticket
    c.leave.new.ticket c.pass.inside.sought c.args.pass.now c.number-number.result c.pass.view_is
    c.enter-desk.ensures.turn c.leave.ensures.left c.enter-desk.ensures.row c.number-number.ensures.same in
    let place = place_of c.enter-desk.result c.first_load-loading.new.self c.enter-desk.new.ticket c.leave.new.ticket
    c.number-number.result (Seek (Load c.args.task)) c.leave.ensures.left (c.first_load-loading.ensures.seeking is) in
    rows.0
    ∙ (c.first_load-loading.ensures.seeking_row is begun (ap (λ r. r.seat) rows.1 ∙ at)
    ∙ (λ i. with_room (seeking_seat begun (place i)) ((rows.1 i).entries + 3) (rows.1 i).values))

pub returns-clause-seeking_section : goal.returns-clause-seeking_section
returns-clause-seeking_section g c =
    λ is.
    let rows = turn_rows c.enter-desk.result c.first_load-loading.new.self c.pass.inside.ticket c.enter-desk.new.ticket
    c.leave.new.ticket c.pass.inside.sought c.args.pass.now c.number-number.result c.pass.view_is
    c.enter-desk.ensures.turn c.leave.ensures.left c.enter-desk.ensures.row c.number-number.ensures.same in
    let row = c.first_load-loading.ensures.seeking_row is c.requires.runs.0
    (ap (λ r. r.seat) rows.1 ∙ c.requires.runs.1) in
    let number = c.number-number.ensures.same ∙ ap (λ p. p.number) c.pass.view_is in
    (λ i. section_want ((state_left g.M.Matter.facts c.first_load-loading.new.self c.enter-desk.new.ticket
    c.leave.new.ticket
    c.leave.ensures.left c.leave.ensures.after) i) (sym number i))
    ∙ section_opened c.first_load-loading.new.self.state c.enter-desk.result.state.history c.number-number.result
    (Seek (Load c.args.task)) (Load c.args.task) (c.first_load-loading.ensures.seeking is) refl
    (ap (λ r. r.seat.section) row)

pub returns-clause-seeking_task : goal.returns-clause-seeking_task
returns-clause-seeking_task g c =
    λ is.
    let facts = g.M.Matter.facts in
    let begun = c.requires.runs.0 in
    let was = subst (λ p. Contains (facts.tasks (seen_state facts p).counts.program) c.args.task)
    (sym c.pass.view_is) c.requires.task in
    let runs = runs_then facts _ begun c.pass.invariant.pass
    (ap (λ p. p.row.seat.running) c.pass.view_is ∙ ap (λ r. r.running) c.requires.runs.1) in
    let then = task_then facts g.met.M.Matter.same_is_equal c.enter-desk.result c.pass.inside.ticket.number
    c.pass.inside.ticket.seen c.pass.invariant.pass.legal c.tells_legal.ensures.after c.enter-desk.ensures.seen
    begun c.args.task runs was in
    subst (λ p. Contains (facts.tasks p) c.args.task) (sym (ap (λ s. s.counts.program)
    (state_left g.M.Matter.facts c.first_load-loading.new.self c.enter-desk.new.ticket c.leave.new.ticket
    c.leave.ensures.left c.leave.ensures.after
    ∙ state_pushed facts c.enter-desk.result.state c.first_load-loading.new.self.state c.number-number.result (Seek
    (Load c.args.task))
    c.tells_legal.ensures.after c.leave.ensures.after (c.first_load-loading.ensures.seeking is)))) then

pub returns-clause-err : goal.returns-clause-err
returns-clause-err g c =
    on_err_map c.first_load-loading.result _ _ (λ same.
    unmoved c.enter-desk.result c.first_load-loading.new.self c.pass.inside.ticket c.enter-desk.new.ticket
    c.leave.new.ticket c.pass.inside.sought c.args.pass.now c.pass.view_is c.enter-desk.ensures.turn
    c.leave.ensures.left c.enter-desk.ensures.seen c.enter-desk.ensures.row same) c.first_load-loading.ensures.err
