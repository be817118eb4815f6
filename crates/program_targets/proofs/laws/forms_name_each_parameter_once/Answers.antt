use Rattle.program_targets.proofs.Names.{names_differ}
use Rattle.program_targets.proofs.laws.forms_name_each_parameter_once.Goals as goal

pub returns : goal.returns
returns c = names_differ
