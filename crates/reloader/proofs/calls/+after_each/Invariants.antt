use Rattle.std.proofs.Common.{length}
use Rattle.reloader.proofs.calls.+after_each.Given as goal

abbrev pub decreases-after_each : goal.decreases-after_each
decreases-after_each g l = length l.hooks.now
