use Rattle.program_written.proofs.Standing.{files_are_written}
use Rattle.program_written.proofs.laws.what_files_define_stands.Goals as goal

pub returns : goal.returns
returns c = λ files controller one each. files_are_written files controller one each
