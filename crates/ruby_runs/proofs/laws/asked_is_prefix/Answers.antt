use Rattle.by_need.proofs.Trees.{prefix}
use Rattle.ruby_runs.specs.Runs.{meaning}
use Rattle.ruby_runs.proofs.laws.asked_is_prefix.Goals as goal

pub returns : goal.returns
returns c = λ index rows limits t K L p. prefix K L p (meaning index rows limits t)
