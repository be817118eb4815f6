use Rattle.by_need.proofs.OneBlame.{blame_asks}
use Rattle.program_theory.specs.Applications.{rules_of}
use Rattle.program_theory.proofs.Lawful.{rules_lawful}
use Rattle.program_theory.proofs.laws.ring_has_one_blame.Goals as goal

pub returns : goal.returns
returns c = λ app t u is h. blame_asks (rules_of app) (rules_lawful app) t is u h
