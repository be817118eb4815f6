use Rattle.program_theory.proofs.Lawful.{rules_lawful}
use Rattle.program_theory.proofs.laws.asked_is_prefix.Goals as goal

pub returns : goal.returns
returns c = λ app t K L p. (rules_lawful app).prefix t K L p
