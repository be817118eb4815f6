use Rattle.shop_base.specs.Passes.{seat_limit}
use Rattle.pass_history.proofs.Courses.{made_course, lags_course}
use Rattle.pass_history.proofs.laws.turns_add_items.Goals as goal

pub returns-clause-made : goal.returns-clause-made
returns-clause-made g c = made_course g.M.Matter.facts seat_limit

pub returns-clause-lags : goal.returns-clause-lags
returns-clause-lags g c = lags_course g.M.Matter.facts seat_limit
