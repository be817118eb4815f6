use Rattle.std.specs.Prelude.{Ok, IfOk, IfSome}
use Rattle.std.proofs.Common.{◌≡◌, ◌≤◌, ◌+◌, Contains, sym, ap, ◌∙◌, subst, arith}
use Rattle.turn_lock.proofs.Histories.{lags_refl}
use Rattle.shop_base.specs.Passes.{seat_of, seen_state}
use Rattle.shop.specs.Seeking.{LoadsTask}
use Rattle.pass_loads.specs.Loading.{HasFailed}
use Rattle.pass_loads.proofs.Steady.{program_of_pass}
use Rattle.pass_loads.proofs.Whole.{moved_back, moved_twice, row_back, section_whole, no_section}
use Rattle.pass_loads.proofs.loading.load.Goals as goal

pub returns-in_err-sought-clause-section : goal.returns-in_err-sought-clause-section
returns-in_err-sought-clause-section g c =
    no_section c.args.pass.now c.args.pass.now c.args.task.now
    (lags_refl seat_of c.args.pass.now.number c.args.pass.now.seen)

pub returns-in_err-opened-clause-same : goal.returns-in_err-opened-clause-same
returns-in_err-opened-clause-same g c =
    moved_back c.args.pass.now c.open_section.new.pass c.open_section.ensures.same c.in_err-opened.ensures.err.0

pub returns-in_err-opened-clause-section : goal.returns-in_err-opened-clause-section
returns-in_err-opened-clause-section g c =
    no_section c.args.pass.now c.open_section.new.pass c.args.task.now c.in_err-opened.ensures.err.1

pub run_section-requires-clause-own : goal.run_section-requires-clause-own
run_section-requires-clause-own g c = ap (λ x. x.shop) c.open_section.ensures.same ∙ c.requires.own

pub run_section-requires-clause-loads : goal.run_section-requires-clause-loads
run_section-requires-clause-loads g c =
    subst (LoadsTask g.M.Matter.facts c.open_section.new.pass) (sym c.in_ok-sought.ensures)
    (c.in_ok-opened.ensures.open (ap Ok c.if-opened.true))

pub run_section-requires-clause-room : goal.run_section-requires-clause-room
run_section-requires-clause-room g c =
    let row = c.in_ok-opened.ensures.row (ap Ok c.if-opened.true) c.requires.runs.0 c.requires.runs.1 in
    let more : c.open_section.new.pass.row.entries ≡ c.args.pass.now.row.entries + 2 = ap (λ r. r.entries) row.1 in
    let enough : 4 ≤ c.args.pass.now.row.entries = c.requires.room in omega (arith, more, enough)

pub run_section-requires-clause-program : goal.run_section-requires-clause-program
run_section-requires-clause-program g c =
    let is = ap Ok c.if-opened.true in
    let runs = ap (λ s. s.running) c.requires.runs.1 in
    let row = c.in_ok-opened.ensures.row is c.requires.runs.0 c.requires.runs.1 in
    let acts = c.in_ok-opened.ensures.acts is in
    let stays = (program_of_pass g.M.Matter.facts g.met.M.Matter.same_is_equal c.args.pass.now c.open_section.new.pass
    c.requires.runs.0 c.tells.ensures c.open_section.ensures.pass (ap (λ x. x.number) c.open_section.ensures.same)
    (acts.1.1.more, acts.1.1.is) runs (ap (λ r. r.seat.running) row.1)).0 in
    stays ∙ c.requires.program

pub run_section-requires-clause-task : goal.run_section-requires-clause-task
run_section-requires-clause-task g c =
    let is = ap Ok c.if-opened.true in
    let runs = ap (λ s. s.running) c.requires.runs.1 in
    let row = c.in_ok-opened.ensures.row is c.requires.runs.0 c.requires.runs.1 in
    let acts = c.in_ok-opened.ensures.acts is in
    let stays = (program_of_pass g.M.Matter.facts g.met.M.Matter.same_is_equal c.args.pass.now c.open_section.new.pass
    c.requires.runs.0 c.tells.ensures c.open_section.ensures.pass (ap (λ x. x.number) c.open_section.ensures.same)
    (acts.1.1.more, acts.1.1.is) runs (ap (λ r. r.seat.running) row.1)).0 in
    subst (λ p. Contains (g.M.Matter.facts.tasks p) c.in_ok-sought.sought) (sym stays)
    (subst (Contains (g.M.Matter.facts.tasks (seen_state g.M.Matter.facts c.args.pass.now).counts.program))
    (sym c.in_ok-sought.ensures) c.requires.task)

pub returns-then-opened-clause-same : goal.returns-then-opened-clause-same
returns-then-opened-clause-same g c =
    let row = c.in_ok-opened.ensures.row (ap Ok c.if-opened.true) c.requires.runs.0 c.requires.runs.1 in
    let closes = c.run_section.ensures.row c.requires.runs.0 row.0 (ap (λ r. r.seat) row.1) in
    moved_back c.args.pass.now c.run_section.new.pass
    (moved_twice c.args.pass.now c.open_section.new.pass c.run_section.new.pass c.open_section.ensures.same
    c.run_section.ensures.same)
    (row_back c.args.pass.now c.open_section.new.pass c.run_section.new.pass c.requires.runs.0 row.0
    c.requires.runs.1 row.1 closes)

pub returns-then-opened-clause-section : goal.returns-then-opened-clause-section
returns-then-opened-clause-section g c =
    let acts = c.in_ok-opened.ensures.acts (ap Ok c.if-opened.true) in
    let rest = c.run_section.ensures.acts in
    section_whole c.args.pass.now c.open_section.new.pass c.run_section.new.pass c.args.task.now acts.0 rest.0
    rest.1 (ap (λ x. x.number) c.open_section.ensures.same) acts.1.0 acts.1.1 rest.2.0 rest.2.1.0
    rest.2.1.1

pub returns-then-opened-clause-failed : goal.returns-then-opened-clause-failed
returns-then-opened-clause-failed g c =
    subst (λ t. IfOk c.run_section.result (λ failed. IfSome failed (λ error.
    HasFailed g.M.Matter.facts g.M.Requests.talks (seen_state g.M.Matter.facts c.run_section.new.pass) t error)))
    c.in_ok-sought.ensures c.run_section.ensures.failed

pub returns-else-opened-clause-same : goal.returns-else-opened-clause-same
returns-else-opened-clause-same g c =
    moved_back c.args.pass.now c.open_section.new.pass c.open_section.ensures.same
    (c.in_ok-opened.ensures.present (ap Ok c.if-opened.false)).0

pub returns-else-opened-clause-section : goal.returns-else-opened-clause-section
returns-else-opened-clause-section g c =
    no_section c.args.pass.now c.open_section.new.pass c.args.task.now
    (c.in_ok-opened.ensures.present (ap Ok c.if-opened.false)).1
