use Rattle.replay_seats.specs.Play.{play_of}
use Rattle.replay_seats.proofs.Seated.{first_seated}
use Rattle.replay_seats.proofs.replay.Replay.new.Goals as goal

pub returns-clause-seated : goal.returns-clause-seated
returns-clause-seated g c = rw (c.in_ok-system.ensures, c.in_ok-seats.ensures) (first_seated
    (play_of g.M.Matter.facts g.M.Requests.talks g.M.Replays.words g.M.Reloads.sources g.M.Theory.Theory.rules
    g.M.Theory.Program.runs g.M.Loads.theory_of))
