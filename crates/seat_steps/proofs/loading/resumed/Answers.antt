use Rattle.seat_steps.proofs.Standing.{ended_ready}
use Rattle.seat_steps.proofs.loading.resumed.Goals as goal

pub answer-requires-clause-ready : goal.answer-requires-clause-ready
answer-requires-clause-ready g c = rw c.load_answer.ensures (ended_ready g.M.Matter.facts g.M.Requests.talks
    c.args.system.now.state c.args.seat c.args.actor c.requires.going.0 c.args.ended c.requires.going.1.0
    c.requires.going.1.1).0
