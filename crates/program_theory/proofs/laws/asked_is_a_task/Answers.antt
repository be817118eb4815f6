use Rattle.program_theory.proofs.Lawful.{asked_is_task}
use Rattle.program_theory.proofs.laws.asked_is_a_task.Goals as goal

pub returns : goal.returns
returns c = asked_is_task
