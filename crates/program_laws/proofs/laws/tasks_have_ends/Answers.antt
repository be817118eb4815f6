use Rattle.program_application.specs.Applications.{application_of}
use Rattle.program_theory.proofs.Lawful.{tasks_end}
use Rattle.program_laws.proofs.Programs.{task_is_tested}
use Rattle.program_laws.proofs.laws.tasks_have_ends.Goals as goal

pub returns : goal.returns
returns c = λ K end is h. tasks_end (application_of c.args.program.now) c.args.task.now K end
    (task_is_tested c.args.program.now c.args.task.now is) h
