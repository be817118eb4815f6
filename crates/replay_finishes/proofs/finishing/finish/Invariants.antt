use Rattle.std.proofs.Common.{◌-◌, ◌^◌, length}
use Rattle.replay_seats.specs.Play.{play_of}
use Rattle.replay_seats.specs.Situation.{AreSeated}
use Rattle.replay_finishes.proofs.Going.{IsGoing}
use Rattle.replay_finishes.proofs.finishing.finish.Given as goal

abbrev pub invariant-entries : goal.invariant-entries
invariant-entries g l = record {
  seated : AreSeated (play_of g.M.Matter.facts g.M.Requests.talks g.M.Replays.words g.M.Reloads.sources
      g.M.Theory.Theory.rules g.M.Theory.Program.runs g.M.Loads.theory_of) l.replay.state l.replay.seats;
  going : IsGoing (play_of g.M.Matter.facts g.M.Requests.talks g.M.Replays.words g.M.Reloads.sources
      g.M.Theory.Theory.rules g.M.Theory.Program.runs g.M.Loads.theory_of) l.seat l.initial.replay l.replay
      l.initial.lines.items l.lines.items;
}

abbrev pub decreases-entries : goal.decreases-entries
decreases-entries g l = 2 ^ 64 - length l.replay.state.history
