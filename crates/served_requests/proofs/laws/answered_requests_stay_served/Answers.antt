use Rattle.served_requests.proofs.Serving.{answered_stays}
use Rattle.served_requests.proofs.laws.answered_requests_stay_served.Goals as goal

pub returns : goal.returns
returns g c = answered_stays g.M.Matter.facts g.met.M.Matter.same_is_equal g.M.Requests.talks
    g.met.M.Requests.replies_follow
