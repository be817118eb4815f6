use Rattle.program_index.proofs.OneLaws.{one_numbers}
use Rattle.program_index.proofs.laws.numbers_are_one.Goals as goal

pub returns : goal.returns
returns c = one_numbers
