use Rattle.std.proofs.Common.{refl}
use Rattle.program_application.proofs.laws.the_application_looks_at_the_index.Goals as goal

pub returns : goal.returns
returns c = λ p. refl
