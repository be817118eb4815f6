use Rattle.program_facts.proofs.Members.{same_equal}
use Rattle.program_facts.proofs.laws.same_is_equal.Goals as goal

pub returns : goal.returns
returns c = same_equal
