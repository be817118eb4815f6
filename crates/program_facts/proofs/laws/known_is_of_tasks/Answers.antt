use Rattle.program_facts.proofs.Members.{known_is_there}
use Rattle.program_facts.proofs.laws.known_is_of_tasks.Goals as goal

pub returns : goal.returns
returns c = known_is_there
