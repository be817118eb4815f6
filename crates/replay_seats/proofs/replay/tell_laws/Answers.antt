use Rattle.replay_seats.proofs.Rows.{legal_of_rows}
use Rattle.replay_seats.proofs.replay.tell_laws.Goals as goal

pub returns-clause-legal : goal.returns-clause-legal
returns-clause-legal g c = legal_of_rows g.M.Matter.facts c.tells_legal.ensures.0 64 c.args.system.now.state
    c.tells_legal.ensures.1 c.requires
