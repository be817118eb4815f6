use Rattle.by_need.proofs.Rounds.{known_gives, known_takes}
use Rattle.program_theory.specs.Applications.{rules_of}
use Rattle.program_theory.proofs.Lawful.{rules_lawful}
use Rattle.program_theory.proofs.laws.known_is_fixed.Goals as goal

pub returns : goal.returns
returns c = λ app t v is. (
  λ h. known_gives (rules_of app) (rules_lawful app) t v h,
  λ h. known_takes (rules_of app) (rules_lawful app) t v is h,
)
