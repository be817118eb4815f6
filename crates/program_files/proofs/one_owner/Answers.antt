use Rattle.program_files.proofs.Owners.{one_owner}
use Rattle.program_files.proofs.one_owner.Goals as goal

pub returns : goal.returns
returns c = one_owner
