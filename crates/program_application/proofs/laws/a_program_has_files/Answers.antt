use Rattle.program_application.proofs.Files.{program_has_files}
use Rattle.program_application.proofs.laws.a_program_has_files.Goals as goal

pub returns : goal.returns
returns c = program_has_files
