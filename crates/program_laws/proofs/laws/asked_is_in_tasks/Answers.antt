use Rattle.program_laws.proofs.Programs.{asked_is_own}
use Rattle.program_laws.proofs.laws.asked_is_in_tasks.Goals as goal

pub returns : goal.returns
returns c = λ K u h. asked_is_own c.args.program.now c.args.task.now u K h
