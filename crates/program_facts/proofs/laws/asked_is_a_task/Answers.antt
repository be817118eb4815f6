use Rattle.program_facts.proofs.Members.{asked_is_there}
use Rattle.program_facts.proofs.laws.asked_is_a_task.Goals as goal

pub returns : goal.returns
returns c = asked_is_there
