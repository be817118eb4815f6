use Rattle.snapshot_faults.proofs.Lines.{faults_are_of_lines}
use Rattle.snapshot_faults.proofs.laws.lines_have_no_want_of_memory.Goals as goal

pub returns : goal.returns
returns c = faults_are_of_lines
