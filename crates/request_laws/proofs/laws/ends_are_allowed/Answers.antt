use Rattle.request_laws.proofs.Standing.{end_is_allowed}
use Rattle.request_laws.proofs.laws.ends_are_allowed.Goals as goal

pub returns : goal.returns
returns g c = end_is_allowed g.M.Matter.facts
