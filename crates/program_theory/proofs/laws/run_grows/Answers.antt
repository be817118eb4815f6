use Rattle.program_theory.proofs.Lawful.{rules_lawful}
use Rattle.program_theory.proofs.laws.run_grows.Goals as goal

pub returns : goal.returns
returns c = λ app t K L p w. (rules_lawful app).grow t K L p w
