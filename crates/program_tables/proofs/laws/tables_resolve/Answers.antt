use Rattle.program_tables.proofs.ResolvedLaws.{resolved_told}
use Rattle.program_tables.proofs.laws.tables_resolve.Goals as goal

pub returns : goal.returns
returns c = resolved_told
