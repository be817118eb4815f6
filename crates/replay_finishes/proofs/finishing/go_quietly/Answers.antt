use Rattle.std.proofs.Common.{sym, ◌∙◌}
use Rattle.replay_seats.specs.Play.{play_of}
use Rattle.replay_seats.specs.Situation.{seat_at}
use Rattle.replay_finishes.proofs.Going.{goes_at_first, goes_on, going_is_over, going_began, going_enters}
use Rattle.replay_finishes.proofs.Going.{going_paused, none_open, told_err}
use Rattle.replay_finishes.proofs.finishing.go_quietly.Goals as goal

pub steps-init : goal.steps-init
steps-init g c = record {
  seated = c.requires.seated;
  going = goes_at_first
      (play_of g.M.Matter.facts g.M.Requests.talks g.M.Replays.words g.M.Reloads.sources g.M.Theory.Theory.rules
      g.M.Theory.Program.runs g.M.Loads.theory_of)
      c.args.seat c.args.replay.now c.args.lines.now.items;
}

pub steps-smaller : goal.steps-smaller
steps-smaller g c = let q = rw c.in-Quiet.is at c.in_ok-pace.ensures.paces in q.1.2

pub steps-preserved : goal.steps-preserved
steps-preserved g c = let q = rw c.in-Quiet.is at c.in_ok-pace.ensures.paces in record {
  seated = c.in_ok-pace.ensures.seated;
  going = goes_on
      (play_of g.M.Matter.facts g.M.Requests.talks g.M.Replays.words g.M.Reloads.sources g.M.Theory.Theory.rules
      g.M.Theory.Program.runs g.M.Loads.theory_of)
      c.args.seat c.args.replay.now c.steps.replay c.go_once.new.replay c.args.lines.now.items
      c.steps.lines.items q.0 c.go_once.new.lines.items c.steps.invariant.going q.1.0 q.2 q.1.1;
}

pub returns-in-Entered-clause-pauses : goal.returns-in-Entered-clause-pauses
returns-in-Entered-clause-pauses g c = let q = rw c.in-Entered.is at c.in_ok-pace.ensures.paces in
    going_enters
    (play_of g.M.Matter.facts g.M.Requests.talks g.M.Replays.words g.M.Reloads.sources g.M.Theory.Theory.rules
    g.M.Theory.Program.runs g.M.Loads.theory_of)
    c.args.seat c.args.replay.now c.steps.replay c.go_once.new.replay c.args.lines.now.items
    c.steps.lines.items q.0 c.go_once.new.lines.items c.steps.invariant.going q.1 q.2

pub returns-in-Stops-clause-pauses : goal.returns-in-Stops-clause-pauses
returns-in-Stops-clause-pauses g c = let q = rw c.in-Stops.is at c.in_ok-pace.ensures.paces in
    going_paused
    (play_of g.M.Matter.facts g.M.Requests.talks g.M.Replays.words g.M.Reloads.sources g.M.Theory.Theory.rules
    g.M.Theory.Program.runs g.M.Loads.theory_of)
    c.args.seat c.args.replay.now c.steps.replay c.go_once.new.replay c.args.lines.now.items
    c.steps.lines.items q.0 c.go_once.new.lines.items c.in-Stops.how c.steps.invariant.going q.1 q.2

pub returns-in_err-pace-clause-err : goal.returns-in_err-pace-clause-err
returns-in_err-pace-clause-err g c = told_err c.from_residual.result (going_began
    (play_of g.M.Matter.facts g.M.Requests.talks g.M.Replays.words g.M.Reloads.sources g.M.Theory.Theory.rules
    g.M.Theory.Program.runs g.M.Loads.theory_of)
    c.args.seat c.args.replay.now c.steps.replay c.args.lines.now.items c.steps.lines.items c.go_once.new.lines.items
    c.steps.invariant.going c.in_err-pace.ensures.err)

pub go_once-requires-clause-has : goal.go_once-requires-clause-has
go_once-requires-clause-has g c = sym c.has_request.ensures ∙ c.steps-test.true

pub returns-clause-pauses : goal.returns-clause-pauses
returns-clause-pauses g c = going_is_over
    (play_of g.M.Matter.facts g.M.Requests.talks g.M.Replays.words g.M.Reloads.sources g.M.Theory.Theory.rules
    g.M.Theory.Program.runs g.M.Loads.theory_of)
    c.args.seat c.args.replay.now c.steps.replay c.args.lines.now.items c.steps.lines.items c.steps.invariant.going
    (none_open (seat_at c.steps.replay.seats c.args.seat) (sym c.has_request.ensures ∙ c.steps-test.false))
