use Rattle.std.proofs.Common.{◌≡◌, sym, subst}
use Rattle.std.proofs.lemmas.Result.{IfOk-weaker}
use Rattle.system_events.specs.declared.event.Want.TheVariants.{Load}
use Rattle.seat_requests.proofs.Standing.{may_load}
use Rattle.seat_operations.proofs.Moving.{take_moves}
use Rattle.seat_steps.specs.Theories.{theories_by}
use Rattle.seat_steps.specs.Stepping.{OpensAt}
use Rattle.seat_steps.proofs.Sections.{opens_goes}
use Rattle.seat_steps.proofs.loading.open_section.Goals as goal

pub take-requires-clause-task : goal.take-requires-clause-task
take-requires-clause-task g c =
    may_load g.M.Matter.facts g.M.Requests.talks c.args.system.now.state c.args.seat g.met.M.Requests.replies_follow
    c.args.actor c.args.task c.requires.standing

pub returns-clause-open : goal.returns-clause-open
returns-clause-open g c =
    let same : c.args.task ≡ c.loaded_task.result = cc (c.loaded_task.ensures) in
    IfOk-weaker c.opened.result _ _
    (λ stepped opens. opens_goes g.M.Matter.facts g.met.M.Matter.same_is_equal g.M.Requests.talks
    (theories_by g.M.Theory.Theory.rules g.M.Theory.Program.runs g.M.Loads.theory_of)
    c.args.system.now.state c.take.new.system.state c.args.seat c.args.actor
    (λ p. g.met.M.Loads.theory_fits p) (λ p. g.M.Theory.Theory.laws (g.M.Loads.theory_of p))
    g.met.M.Requests.replies_follow c.tells_laws.ensures.exclusive g.M.Replays.words c.tells_legal.ensures.0
    c.args.task c.in_ok-taken.taken stepped c.tells_legal.ensures.1 c.requires.standing c.in_ok-taken.ensures
    (subst (λ (t : g.row.M-Task.Denot). OpensAt c.args.actor t c.in_ok-taken.taken stepped) (sym same) opens))
    c.opened.ensures

pub returns-clause-moved : goal.returns-clause-moved
returns-clause-moved g c = IfOk-weaker c.opened.result _ _
    (λ stepped opens. take_moves g.M.Matter.facts c.args.system.now.state c.take.new.system.state c.args.seat
    g.M.Replays.words (Load c.args.task) c.in_ok-taken.taken c.in_ok-taken.ensures)
    c.opened.ensures
