use Rattle.seat_requests.proofs.Standing.{standing_stays}
use Rattle.seat_requests.proofs.laws.standing_requests_stay.Goals as goal

pub returns : goal.returns
returns g c = standing_stays g.M.Matter.facts g.met.M.Matter.same_is_equal g.M.Requests.talks
