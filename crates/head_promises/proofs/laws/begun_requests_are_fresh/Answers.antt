use Rattle.head_promises.proofs.Courses.{begins_fresh}
use Rattle.head_promises.proofs.laws.begun_requests_are_fresh.Goals as goal

pub returns : goal.returns
returns g c = begins_fresh g.M.Matter.facts
