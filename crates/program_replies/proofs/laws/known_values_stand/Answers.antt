use Rattle.program_replies.proofs.Profiled.{profiled_known_stands}
use Rattle.program_replies.proofs.laws.known_values_stand.Goals as goal

pub returns : goal.returns
returns c = λ files controller are. profiled_known_stands files controller are
