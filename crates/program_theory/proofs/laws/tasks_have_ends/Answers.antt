use Rattle.program_theory.proofs.Lawful.{tasks_end}
use Rattle.program_theory.proofs.laws.tasks_have_ends.Goals as goal

pub returns : goal.returns
returns c = tasks_end
