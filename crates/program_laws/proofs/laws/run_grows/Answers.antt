use Rattle.program_application.specs.Applications.{application_of}
use Rattle.program_theory.proofs.Lawful.{rules_lawful}
use Rattle.program_laws.proofs.laws.run_grows.Goals as goal

pub returns : goal.returns
returns c = λ K L part waits. (rules_lawful (application_of c.args.program.now)).grow c.args.task.now K L part waits
