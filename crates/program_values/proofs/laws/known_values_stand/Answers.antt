use Rattle.program_values.proofs.Known.{known_stands}
use Rattle.program_values.proofs.laws.known_values_stand.Goals as goal

pub returns : goal.returns
returns c = known_stands
