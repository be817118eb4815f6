use Rattle.request_laws.proofs.Standing.{served_stays}
use Rattle.request_laws.proofs.laws.served_requests_stay.Goals as goal

pub returns : goal.returns
returns g c = served_stays g.M.Matter.facts g.M.Requests.talks g.met.M.Matter.same_is_equal
