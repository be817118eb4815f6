use Rattle.program_values.proofs.Known.{guarded_alike}
use Rattle.program_replies.specs.Profiled.{profiled}
use Rattle.program_replies.proofs.Profiled.{profile_names_nothing_new, profiled_is_written}
use Rattle.program_replies.proofs.laws.no_call_names_what_is_not_there.Goals as goal

pub returns : goal.returns
returns c = λ files controller are other t params K part. guarded_alike (profiled files controller)
    (profile_names_nothing_new files controller) (profiled_is_written files controller are) other t params K part
