use Rattle.by_need.proofs.Trees.{grow}
use Rattle.ruby_runs.specs.Runs.{meaning}
use Rattle.ruby_runs.proofs.laws.run_grows.Goals as goal

pub returns : goal.returns
returns c = λ index rows limits t K L p w. grow K L p (meaning index rows limits t) w
