use Rattle.replay_seats.specs.Play.{play_of}
use Rattle.replay_finishes.proofs.Going.{step_paces}
use Rattle.replay_finishes.proofs.finishing.go_once.Goals as goal

pub returns-clause-paces : goal.returns-clause-paces
returns-clause-paces g c = rw c.pace_of.ensures (
  c.in_ok-turn.ensures.turned.0,
  step_paces
      (play_of g.M.Matter.facts g.M.Requests.talks g.M.Replays.words g.M.Reloads.sources g.M.Theory.Theory.rules
      g.M.Theory.Program.runs g.M.Loads.theory_of)
      c.args.seat c.args.replay.now c.tell_turn.new.replay c.in_ok-turn.ensures.turned.0 c.in_ok-turn.turn
      c.is_less-grew.result c.in_ok-turn.ensures.turned.1 c.requires.has (cc (c.is_less-grew.ensures)),
  c.in_ok-turn.ensures.turned.2,
)

pub returns-clause-seated : goal.returns-clause-seated
returns-clause-seated g c = c.in_ok-turn.ensures.turned.1.seated
