use Rattle.program_theory.proofs.Lawful.{rules_lawful}
use Rattle.program_theory.proofs.laws.asked_is_known_or_lacking.Goals as goal

pub returns : goal.returns
returns c = λ app t u K h. (rules_lawful app).asked_known t K u h
