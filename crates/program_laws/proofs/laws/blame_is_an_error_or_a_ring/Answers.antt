use Rattle.program_application.specs.Applications.{application_of}
use Rattle.program_theory.proofs.Lawful.{blame_ends}
use Rattle.program_laws.proofs.Programs.{task_is_tested}
use Rattle.program_laws.proofs.laws.blame_is_an_error_or_a_ring.Goals as goal

pub returns : goal.returns
returns c = λ end is h. blame_ends (application_of c.args.program.now) c.args.task.now end
    (task_is_tested c.args.program.now c.args.task.now is) h
