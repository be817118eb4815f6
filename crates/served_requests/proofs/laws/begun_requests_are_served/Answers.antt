use Rattle.served_requests.proofs.Serving.{begun_is_served}
use Rattle.served_requests.proofs.laws.begun_requests_are_served.Goals as goal

pub returns : goal.returns
returns g c = begun_is_served g.M.Matter.facts g.met.M.Matter.same_is_equal g.M.Requests.talks
