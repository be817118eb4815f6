use Rattle.program_index.proofs.EmptyLaws.{empty_told}
use Rattle.program_index.proofs.laws.empty_is_one.Goals as goal

pub returns : goal.returns
returns c = empty_told
