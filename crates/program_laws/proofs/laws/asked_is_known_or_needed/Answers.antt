use Rattle.program_application.specs.Applications.{application_of}
use Rattle.program_theory.proofs.Lawful.{rules_lawful}
use Rattle.program_laws.proofs.Programs.{asked_is_found}
use Rattle.program_laws.proofs.laws.asked_is_known_or_needed.Goals as goal

pub returns : goal.returns
returns c = λ K u h. (rules_lawful (application_of c.args.program.now)).asked_known c.args.task.now K u
    (asked_is_found c.args.program.now c.args.task.now u K h)
