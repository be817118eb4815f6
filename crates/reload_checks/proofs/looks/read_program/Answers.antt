use Rattle.std.proofs.Common.{[]}
use Rattle.reload_checks.specs.Checks.{files_fail, files_lack}
use Rattle.reload_checks.proofs.looks.read_program.Goals as goal

pub returns-in-Failed-clause-refused : goal.returns-in-Failed-clause-refused
returns-in-Failed-clause-refused g c = ([], files_fail, c.in-Failed.ensures.given)

pub returns-in-Memory-clause-refused : goal.returns-in-Memory-clause-refused
returns-in-Memory-clause-refused g c = ([], files_lack, c.in-Memory.ensures.given)
