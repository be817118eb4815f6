use Rattle.seat_steps.specs.Theories.{theories_by}
use Rattle.seat_steps.proofs.Standing.{stands_next}
use Rattle.seat_steps.proofs.answering.answer.Goals as goal

pub returns-clause-open : goal.returns-clause-open
returns-clause-open g c = rw c.opened_at.ensures (stands_next g.M.Matter.facts g.M.Requests.talks
    (theories_by g.M.Theory.Theory.rules g.M.Theory.Program.runs g.M.Loads.theory_of)
    c.args.system.now.state c.args.seat c.ask_next.new.actor c.in_ok-asked.asked c.in_ok-asked.ensures.stands)
