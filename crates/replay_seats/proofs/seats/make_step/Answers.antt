use Rattle.std.proofs.Common.{sym, subst, ◌<◌}
use Rattle.replay_seats.specs.Play.{play_of}
use Rattle.replay_seats.proofs.Seated.{step_made}
use Rattle.replay_seats.proofs.seats.make_step.Goals as goal

pub step-requires-clause-seat : goal.step-requires-clause-seat
step-requires-clause-seat g c = subst (λ n. c.args.seat < n) (sym c.requires.seated.rows) c.requires.below

pub put_in-requires : goal.put_in-requires
put_in-requires g c = subst (λ n. c.args.seat < n) (sym c.requires.seated.places) c.requires.below

pub returns : goal.returns
returns g c = step_made
    (play_of g.M.Matter.facts g.M.Requests.talks g.M.Replays.words g.M.Reloads.sources g.M.Theory.Theory.rules
    g.M.Theory.Program.runs g.M.Loads.theory_of) g.met.M.Matter.same_is_equal
    (record { state = c.args.system.now.state; files = c.args.files.now; seats = c.args.seats.now.items })
    c.args.seat c.requires.below c.requires.seated c.args.request
    (record { state = c.step.new.system.state; files = c.step.new.files; seats = c.put_in.new.seats.items })
    c.in_ok-stepped.stepped c.in_ok-after.after.lines.items c.in_ok-after.after.turn c.in_ok-after.after.request
    c.tells_laws.ensures.exclusive c.tells_laws.ensures.table c.requires.stands c.in_ok-stepped.ensures.steps
    c.in_ok-stepped.ensures.open c.in_ok-stepped.ensures.moved c.step.ensures.files c.in_ok-after.ensures.lines
    c.in_ok-after.ensures.turn c.in_ok-after.ensures.request c.put_in.ensures
