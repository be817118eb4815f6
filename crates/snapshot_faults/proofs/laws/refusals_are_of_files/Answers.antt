use Rattle.snapshot_faults.proofs.Lines.{refusal_is_of_files}
use Rattle.snapshot_faults.proofs.laws.refusals_are_of_files.Goals as goal

pub returns : goal.returns
returns c = refusal_is_of_files
