use Rattle.program_application.proofs.Files.{program_is_written}
use Rattle.program_application.proofs.laws.what_the_index_holds_is_written.Goals as goal

pub returns : goal.returns
returns c = program_is_written
