use Rattle.std.proofs.Common.{◌≡◌, ◌-◌, true, false, [], ◌∷◌, ◌++◌, Some, sym, ap, ◌∙◌, subst}
use Rattle.system_events.specs.declared.event.Kept.TheVariants.{Define}
use Rattle.system_events.specs.declared.event.Want.TheVariants.{Load}
use Rattle.system_events.specs.State.{is_in, section_want}
use Rattle.system_events.specs.Steps.{Condition, pair_of}
use Rattle.system_events.specs.Legal.{after}
use Rattle.shop_base.specs.Rows.{seat_row, is_exclusive, with_room}
use Rattle.shop_base.specs.Passes.{entry, seen_state}
use Rattle.shop_desk.specs.Ledgers.{desk_row}
use Rattle.shop.specs.Seeking.{LoadsTask}
use Rattle.shop.proofs.Turns.{held_left, moved_turn, turn_rows}
use Rattle.shop.proofs.Then.{needed_then, known_then, absent_then, section_then, table_then}
use Rattle.shop.proofs.Loads.{state_left, state_pushed, section_grown, runs_then}
use Rattle.shop.proofs.shop.Shop.define.Goals as goal

pub invariant_of-pass : goal.invariant_of-pass
invariant_of-pass g c =
    held_left g.M.Matter.facts c.define.new.self c.enter-desk.new.ticket c.leave.new.ticket
    c.leave.new.generation c.pass.inside.sought c.leave.ensures.left c.leave.ensures.after c.leave.ensures.generation

pub define-requires-clause-new : goal.define-requires-clause-new
define-requires-clause-new g c =
    let facts = g.M.Matter.facts in
    let owns : is_exclusive (seat_row (after facts 64 c.pass.inside.ticket.seen).seats c.pass.inside.ticket.number)
    ≡ true = ap is_exclusive (sym c.pass.invariant.pass.row
    ∙ (ap (λ p. p.row.seat) c.pass.view_is ∙ c.requires.loads.1.1)) in
    let was = subst (λ p. is_in facts c.args.task (seen_state facts p).table ≡ false) (sym c.pass.view_is)
    c.requires.new in
    absent_then facts g.met.M.Matter.same_is_equal c.enter-desk.result c.pass.inside.ticket.number
    c.pass.inside.ticket.seen c.pass.invariant.pass.legal c.tells_legal.ensures.after c.enter-desk.ensures.seen
    c.args.task owns was

pub define-requires-clause-needed : goal.define-requires-clause-needed
define-requires-clause-needed g c =
    let facts = g.M.Matter.facts in
    let runs = runs_then facts _ c.requires.loads.0 c.pass.invariant.pass
    (ap (λ p. p.row.seat.running) c.pass.view_is ∙ ap (λ r. r.running) c.requires.loads.1.1) in
    let was = subst (λ p. Condition facts (seen_state facts p) p.number (Define c.args.task)) (sym c.pass.view_is)
    c.requires.needed in
    let then = needed_then facts g.met.M.Matter.same_is_equal c.enter-desk.result c.pass.inside.ticket.number
    c.pass.inside.ticket.seen c.pass.invariant.pass.legal c.tells_legal.ensures.after c.enter-desk.ensures.seen
    c.requires.loads.0
    c.args.task runs was in
    subst (λ n. Condition facts c.enter-desk.result.state n (Define c.args.task)) (sym
    c.number-number.ensures.same) then

pub define-requires-clause-known : goal.define-requires-clause-known
define-requires-clause-known g c =
    let facts = g.M.Matter.facts in
    let runs = runs_then facts _ c.requires.loads.0 c.pass.invariant.pass
    (ap (λ p. p.row.seat.running) c.pass.view_is ∙ ap (λ r. r.running) c.requires.loads.1.1) in
    let known = known_then facts g.met.M.Matter.same_is_equal c.enter-desk.result c.pass.inside.ticket.number
    c.pass.inside.ticket.seen c.pass.invariant.pass.legal c.tells_legal.ensures.after c.enter-desk.ensures.seen
    c.requires.loads.0
    c.args.task c.args.value runs (subst (λ p. facts.known (seen_state facts p).counts.program c.args.task
    ≡ Some c.args.value) (sym c.pass.view_is) c.requires.known) in
    known

pub define-requires-clause-loads : goal.define-requires-clause-loads
define-requires-clause-loads g c =
    let row = ap (λ n. desk_row c.enter-desk.result n) c.number-number.ensures.same
    ∙ (c.enter-desk.ensures.row ∙ ap (λ p. p.row) c.pass.view_is) in
    (c.requires.loads.0, (c.requires.loads.1.0, ap (λ r. r.seat) row ∙ c.requires.loads.1.1))

pub returns-clause-same : goal.returns-clause-same
returns-clause-same g c =
    let rows = turn_rows c.enter-desk.result c.define.new.self c.pass.inside.ticket c.enter-desk.new.ticket
    c.leave.new.ticket c.pass.inside.sought c.args.pass.now c.number-number.result c.pass.view_is
    c.enter-desk.ensures.turn c.leave.ensures.left c.enter-desk.ensures.row c.number-number.ensures.same in
    moved_turn c.enter-desk.result c.define.new.self c.pass.inside.ticket c.enter-desk.new.ticket
    c.leave.new.ticket c.pass.inside.sought c.args.pass.now c.number-number.result
    _ c.pass.view_is c.enter-desk.ensures.turn c.leave.ensures.left c.number-number.ensures.same
    (c.define.ensures.row ∙ ap (λ r. with_room r.seat (r.entries - 1) (r.values - 1)) rows.1)

pub returns-clause-table : goal.returns-clause-table
returns-clause-table g c =
    let facts = g.M.Matter.facts in
    let owns : is_exclusive (seat_row (after facts 64 c.pass.inside.ticket.seen).seats c.pass.inside.ticket.number)
    ≡ true = ap is_exclusive (sym c.pass.invariant.pass.row
    ∙ (ap (λ p. p.row.seat) c.pass.view_is ∙ c.requires.loads.1.1)) in
    let runs = runs_then facts _ c.requires.loads.0 c.pass.invariant.pass
    (ap (λ p. p.row.seat.running) c.pass.view_is ∙ ap (λ r. r.running) c.requires.loads.1.1) in
    let known = known_then facts g.met.M.Matter.same_is_equal c.enter-desk.result c.pass.inside.ticket.number
    c.pass.inside.ticket.seen c.pass.invariant.pass.legal c.tells_legal.ensures.after c.enter-desk.ensures.seen
    c.requires.loads.0
    c.args.task c.args.value runs (subst (λ p. facts.known (seen_state facts p).counts.program c.args.task
    ≡ Some c.args.value) (sym c.pass.view_is) c.requires.known) in
    let table : c.enter-desk.result.state.table ≡ (after facts 64 c.pass.inside.ticket.seen).table =
    table_then facts g.met.M.Matter.same_is_equal c.enter-desk.result c.pass.inside.ticket.number
    c.pass.inside.ticket.seen c.pass.invariant.pass.legal c.tells_legal.ensures.after c.enter-desk.ensures.seen owns in
    ap (λ s. s.table) (state_left g.M.Matter.facts c.define.new.self c.enter-desk.new.ticket c.leave.new.ticket
    c.leave.ensures.left c.leave.ensures.after
    ∙ state_pushed facts c.enter-desk.result.state c.define.new.self.state c.number-number.result (Define c.args.task)
    c.tells_legal.ensures.after c.leave.ensures.after c.define.ensures.entry)
    ∙ ((λ i. table i ++ pair_of c.args.task (known i))
    ∙ ap (λ p. (seen_state facts p).table ++ (c.args.task, c.args.value) ∷ []) c.pass.view_is)

pub returns-clause-section : goal.returns-clause-section
returns-clause-section g c =
    λ sought loading.
    let facts = g.M.Matter.facts in
    let number = c.number-number.ensures.same ∙ ap (λ p. p.number) c.pass.view_is in
    let rows = turn_rows c.enter-desk.result c.define.new.self c.pass.inside.ticket c.enter-desk.new.ticket
    c.leave.new.ticket c.pass.inside.sought c.args.pass.now c.number-number.result c.pass.view_is
    c.enter-desk.ensures.turn c.leave.ensures.left c.enter-desk.ensures.row c.number-number.ensures.same in
    let was = subst (λ p. section_want (seen_state facts p) p.number ≡ Some (Load sought)) (sym c.pass.view_is)
    loading.section in
    let then = section_then facts g.met.M.Matter.same_is_equal c.enter-desk.result c.pass.inside.ticket.number
    c.pass.inside.ticket.seen c.pass.invariant.pass.legal c.tells_legal.ensures.after c.enter-desk.ensures.seen
    (Load sought) was in
    let grown = section_grown c.enter-desk.result.state c.define.new.self.state c.number-number.result (Load sought)
    (entry c.number-number.result (Define c.args.task) ∷ [], c.define.ensures.entry)
    (ap (λ r. r.seat.section) c.define.ensures.row)
    (subst (λ n. section_want c.enter-desk.result.state n ≡ Some (Load sought)) (sym c.number-number.ensures.same)
    then) in
    let same = moved_turn c.enter-desk.result c.define.new.self c.pass.inside.ticket c.enter-desk.new.ticket
    c.leave.new.ticket c.pass.inside.sought c.args.pass.now c.number-number.result
    _ c.pass.view_is c.enter-desk.ensures.turn c.leave.ensures.left c.number-number.ensures.same
    (c.define.ensures.row ∙ ap (λ r. with_room r.seat (r.entries - 1) (r.values - 1)) rows.1) in
    subst (λ p. LoadsTask facts p sought) (sym same) (record {
      loads = loading.loads;
      section = (λ i. section_want ((state_left g.M.Matter.facts c.define.new.self c.enter-desk.new.ticket
          c.leave.new.ticket
          c.leave.ensures.left c.leave.ensures.after) i) (sym number i)) ∙ grown;
    })
