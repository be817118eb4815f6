use Rattle.program_values.proofs.Known.{guarded_alike}
use Rattle.program_values.proofs.laws.no_call_names_what_is_not_there.Goals as goal

pub returns : goal.returns
returns c = λ app nothing_new written other t params K part. guarded_alike app nothing_new written other t params K part
