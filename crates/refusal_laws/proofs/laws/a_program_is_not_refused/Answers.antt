use Rattle.refusal_laws.proofs.Unrefused.{not_refused}
use Rattle.refusal_laws.proofs.laws.a_program_is_not_refused.Goals as goal

pub returns : goal.returns
returns c = not_refused
