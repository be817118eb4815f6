use Rattle.std.proofs.lemmas.Result.{IfOk-weaker}
use Rattle.replay_seats.specs.Play.{play_of}
use Rattle.replay_seats.proofs.Seated.{taken_seated, taken_stands, idle_turned, step_turned}
use Rattle.replay_seats.proofs.seats.turn_seat.Goals as goal

pub make_step-requires-clause-seated : goal.make_step-requires-clause-seated
make_step-requires-clause-seated g c = rw c.take_out.ensures.rest (taken_seated
    (play_of g.M.Matter.facts g.M.Requests.talks g.M.Replays.words g.M.Reloads.sources g.M.Theory.Theory.rules
    g.M.Theory.Program.runs g.M.Loads.theory_of) c.args.system.now.state c.args.seats.now.items c.args.seat
    c.requires.below c.requires.seated)

pub make_step-requires-clause-stands : goal.make_step-requires-clause-stands
make_step-requires-clause-stands g c = taken_stands
    (play_of g.M.Matter.facts g.M.Requests.talks g.M.Replays.words g.M.Reloads.sources g.M.Theory.Theory.rules
    g.M.Theory.Program.runs g.M.Loads.theory_of) c.args.system.now.state c.args.seats.now.items c.args.seat
    c.requires.below c.requires.seated c.in-Some.request (cc (c.take_out.ensures.taken, c.in-Some.is))

pub returns-in-None : goal.returns-in-None
returns-in-None g c = IfOk-weaker c.idle.result _ _ (λ told is. idle_turned
    (play_of g.M.Matter.facts g.M.Requests.talks g.M.Replays.words g.M.Reloads.sources g.M.Theory.Theory.rules
    g.M.Theory.Program.runs g.M.Loads.theory_of) c.args.system.now.state c.args.files.now c.args.seats.now.items
    c.take_out.new.seats.items c.args.seat told.lines.items told.turn c.requires.seated
    (cc (c.take_out.ensures.taken, c.in-None.is)) c.take_out.ensures.rest is.0 is.1) c.idle.ensures

pub returns-in-Some : goal.returns-in-Some
returns-in-Some g c = IfOk-weaker c.make_step.result _ _ (λ told made. step_turned
    (play_of g.M.Matter.facts g.M.Requests.talks g.M.Replays.words g.M.Reloads.sources g.M.Theory.Theory.rules
    g.M.Theory.Program.runs g.M.Loads.theory_of) c.args.system.now.state c.args.files.now c.args.seats.now.items
    c.take_out.new.seats.items
    (record {
      state = c.make_step.new.system.state;
      files = c.make_step.new.files;
      seats = c.make_step.new.seats.items;
    })
    c.args.seat c.in-Some.request told.lines.items told.turn (cc (c.take_out.ensures.taken, c.in-Some.is))
    c.take_out.ensures.rest made) c.make_step.ensures
