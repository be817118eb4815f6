use Rattle.ruby_runs.proofs.Asked.{asked_are_tasks}
use Rattle.ruby_runs.proofs.laws.asked_is_a_task.Goals as goal

pub returns : goal.returns
returns c = λ index rows limits is_task has t K. asked_are_tasks index rows limits is_task has t K
