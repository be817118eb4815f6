use Rattle.program_built_ins.proofs.Arrays.{array_rows_stand}
use Rattle.program_built_ins.proofs.Common.{value_rows_stand}
use Rattle.program_built_ins.proofs.Hashes.{hash_rows_stand}
use Rattle.program_built_ins.proofs.laws.rows_of_what_stands_stand.Goals as goal

pub returns : goal.returns
returns c = record {
  arrays = array_rows_stand;
  hashes = hash_rows_stand;
  values = value_rows_stand;
}
