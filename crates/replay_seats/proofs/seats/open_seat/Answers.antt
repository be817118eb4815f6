use Rattle.std.proofs.Common.{sym, subst, ◌<◌}
use Rattle.replay_seats.specs.Play.{play_of}
use Rattle.replay_seats.proofs.Seated.{opens}
use Rattle.replay_seats.proofs.seats.open_seat.Goals as goal

pub put_in-requires : goal.put_in-requires
put_in-requires g c = subst (λ n. c.args.seat < n) (sym c.requires.seated.places) c.requires.below

pub returns : goal.returns
returns g c = opens
    (play_of g.M.Matter.facts g.M.Requests.talks g.M.Replays.words g.M.Reloads.sources g.M.Theory.Theory.rules
    g.M.Theory.Program.runs g.M.Loads.theory_of) c.args.target.now c.args.system.now.state c.args.seats.now.items
    c.put_in.new.seats.items c.args.seat c.in_ok-opened.opened c.requires.below c.requires.seated
    c.in_ok-opened.ensures.opened c.in_ok-opened.ensures.stands c.put_in.ensures
