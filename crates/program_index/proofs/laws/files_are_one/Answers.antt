use Rattle.program_index.proofs.OneLaws.{one_files}
use Rattle.program_index.proofs.laws.files_are_one.Goals as goal

pub returns : goal.returns
returns c = one_files
