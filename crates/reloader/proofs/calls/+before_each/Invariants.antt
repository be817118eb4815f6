use Rattle.std.proofs.Common.{length}
use Rattle.reloader.proofs.calls.+before_each.Given as goal

abbrev pub decreases-before_each : goal.decreases-before_each
decreases-before_each g l = length l.hooks.now
