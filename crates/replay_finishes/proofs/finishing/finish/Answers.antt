use Rattle.std.proofs.Common.{◌<◌, length, arith}
use Rattle.replay_seats.specs.Play.{play_of}
use Rattle.replay_finishes.proofs.Going.{goes_at_first, goes_on_by, going_finishes, going_began_more, no_longer}
use Rattle.replay_finishes.proofs.Going.{told_err}
use Rattle.replay_finishes.proofs.finishing.finish.Goals as goal

pub entries-init : goal.entries-init
entries-init g c = record {
  seated = c.requires.seated;
  going = goes_at_first
      (play_of g.M.Matter.facts g.M.Requests.talks g.M.Replays.words g.M.Reloads.sources g.M.Theory.Theory.rules
      g.M.Theory.Program.runs g.M.Loads.theory_of)
      c.args.seat c.args.replay.now c.args.lines.now.items;
}

pub entries-smaller : goal.entries-smaller
entries-smaller g c = let q = rw c.in-Entered.is at c.in_ok-pace.ensures.pauses in
    let grows : length c.entries.replay.state.history < length c.go_quietly.new.replay.state.history = q.1.1 in
    let fits = c.length-length.ensures in
    omega (arith, grows, fits)

pub entries-preserved : goal.entries-preserved
entries-preserved g c = let q = rw c.in-Entered.is at c.in_ok-pace.ensures.pauses in record {
  seated = c.in_ok-pace.ensures.seated;
  going = goes_on_by
      (play_of g.M.Matter.facts g.M.Requests.talks g.M.Replays.words g.M.Reloads.sources g.M.Theory.Theory.rules
      g.M.Theory.Program.runs g.M.Loads.theory_of)
      c.args.seat c.args.replay.now c.entries.replay c.go_quietly.new.replay
      c.args.lines.now.items c.entries.lines.items q.0 c.go_quietly.new.lines.items c.entries.invariant.going q.1.0
      q.2 (no_longer q.1.1);
}

pub returns-in-Stops-clause-finishes : goal.returns-in-Stops-clause-finishes
returns-in-Stops-clause-finishes g c = let q = rw c.in-Stops.is at c.in_ok-pace.ensures.pauses in
    going_finishes
    (play_of g.M.Matter.facts g.M.Requests.talks g.M.Replays.words g.M.Reloads.sources g.M.Theory.Theory.rules
    g.M.Theory.Program.runs g.M.Loads.theory_of)
    c.args.seat c.args.replay.now c.entries.replay c.go_quietly.new.replay
    c.args.lines.now.items c.entries.lines.items q.0 c.go_quietly.new.lines.items c.in-Stops.how
    c.entries.invariant.going q.1 q.2

pub returns-in_err-pace-clause-err : goal.returns-in_err-pace-clause-err
returns-in_err-pace-clause-err g c = told_err c.from_residual.result (going_began_more
    (play_of g.M.Matter.facts g.M.Requests.talks g.M.Replays.words g.M.Reloads.sources g.M.Theory.Theory.rules
    g.M.Theory.Program.runs g.M.Loads.theory_of)
    c.args.seat c.args.replay.now c.entries.replay c.args.lines.now.items c.entries.lines.items
    c.in_err-pace.ensures.err.0 c.go_quietly.new.lines.items c.entries.invariant.going c.in_err-pace.ensures.err.1
    c.in_err-pace.ensures.err.2)

pub unreachable-requires : goal.unreachable-requires
unreachable-requires g c = let q = rw c.in-Quiet.is at c.in_ok-pace.ensures.pauses in q.1
