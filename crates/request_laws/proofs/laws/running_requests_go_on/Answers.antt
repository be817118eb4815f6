use Rattle.request_laws.proofs.Standing.{request_goes_on}
use Rattle.request_laws.proofs.laws.running_requests_go_on.Goals as goal

pub returns : goal.returns
returns g c = request_goes_on g.M.Matter.facts g.met.M.Matter.same_is_equal
