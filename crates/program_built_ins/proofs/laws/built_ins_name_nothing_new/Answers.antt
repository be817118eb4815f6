use Rattle.program_built_ins.proofs.Calls.{names_nothing_new}
use Rattle.program_built_ins.proofs.laws.built_ins_name_nothing_new.Goals as goal

pub returns : goal.returns
returns c = λ index rows same. names_nothing_new index rows same
