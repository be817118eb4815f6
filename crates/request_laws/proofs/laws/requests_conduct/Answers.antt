use Rattle.request_laws.proofs.Conducting.{conducts}
use Rattle.request_laws.proofs.laws.requests_conduct.Goals as goal

pub returns : goal.returns
returns g c = λ p q. conducts g.M.Matter.facts g.M.Requests.talks p q g.met.M.Requests.replies_follow
