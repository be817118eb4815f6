use Rattle.std.proofs.Common.{arith}
use Rattle.command_runs.proofs.Written.{known_long}
use Rattle.command_runs.proofs.answer.wanted_of_target.Goals as goal

pub returns-in_ok-too_long : goal.returns-in_ok-too_long
returns-in_ok-too_long c = λ words get.
    known_long words _ _ (c.args.target.now, get, omega (arith, c.if-target-gt-LONGEST_TARGET.true))
    c.in_ok-too_long.ensures
