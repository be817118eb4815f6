use Rattle.seat_steps.specs.Theories.{theories_by}
use Rattle.seat_steps.proofs.Standing.{open_stays}
use Rattle.seat_steps.proofs.laws.open_requests_stay.Goals as goal

pub returns : goal.returns
returns g c = λ old new entry k request exclusive step other going.
    open_stays g.M.Matter.facts g.met.M.Matter.same_is_equal g.M.Requests.talks
    (theories_by g.M.Theory.Theory.rules g.M.Theory.Program.runs g.M.Loads.theory_of) old new k request.actor
    entry exclusive step other request.next going
