use Rattle.program_theory.proofs.Lawful.{rules_lawful}
use Rattle.program_theory.proofs.laws.applications_are_lawful.Goals as goal

pub returns : goal.returns
returns c = rules_lawful
