use Rattle.program_built_ins.proofs.Common.{module_rows_stand, sym_rows_stand}
use Rattle.program_built_ins.proofs.Numbers.{int_rows_stand}
use Rattle.program_built_ins.proofs.Texts.{str_rows_stand}
use Rattle.program_built_ins.proofs.laws.plain_rows_stand.Goals as goal

pub returns : goal.returns
returns c = record {
  numbers = int_rows_stand;
  texts = str_rows_stand;
  symbols = sym_rows_stand;
  modules = module_rows_stand;
}
