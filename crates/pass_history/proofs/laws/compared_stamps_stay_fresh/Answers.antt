use Rattle.pass_history.proofs.Freshness.{fresh_later}
use Rattle.pass_history.proofs.laws.compared_stamps_stay_fresh.Goals as goal

pub returns : goal.returns
returns g c = fresh_later g.M.Matter.facts
