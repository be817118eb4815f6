use Rattle.program_laws.proofs.Programs.{one_blame}
use Rattle.program_laws.proofs.laws.ring_has_one_blame.Goals as goal

pub returns : goal.returns
returns c = λ is u leads. (one_blame c.args.program.now c.args.task.now u is leads).1
