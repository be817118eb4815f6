use Rattle.replay_seats.specs.Play.{play_of}
use Rattle.replay_seats.specs.Situation.{AreSeated, seat_at}
use Rattle.replay_seats.specs.Turning.{left}
use Rattle.replay_finishes.proofs.Going.{IsGoing}
use Rattle.replay_finishes.proofs.finishing.go_quietly.Given as goal

abbrev pub invariant-steps : goal.invariant-steps
invariant-steps g l = record {
  seated : AreSeated (play_of g.M.Matter.facts g.M.Requests.talks g.M.Replays.words g.M.Reloads.sources
      g.M.Theory.Theory.rules g.M.Theory.Program.runs g.M.Loads.theory_of) l.replay.state l.replay.seats;
  going : IsGoing (play_of g.M.Matter.facts g.M.Requests.talks g.M.Replays.words g.M.Reloads.sources
      g.M.Theory.Theory.rules g.M.Theory.Program.runs g.M.Loads.theory_of) l.seat l.initial.replay l.replay
      l.initial.lines.items l.lines.items;
}

abbrev pub decreases-steps : goal.decreases-steps
decreases-steps g l = left
    (play_of g.M.Matter.facts g.M.Requests.talks g.M.Replays.words g.M.Reloads.sources g.M.Theory.Theory.rules
    g.M.Theory.Program.runs g.M.Loads.theory_of) l.replay.state (seat_at l.replay.seats l.seat)
