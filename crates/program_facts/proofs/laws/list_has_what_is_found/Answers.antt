use Rattle.program_facts.proofs.Members.{found_is_there}
use Rattle.program_facts.proofs.laws.list_has_what_is_found.Goals as goal

pub returns : goal.returns
returns c = found_is_there
