use Rattle.std.proofs.Common.{◌≤◌, ◌-◌, length}
use Rattle.outside_real.proofs.reading.fill.Given as goal

abbrev pub invariant-reads : goal.invariant-reads
invariant-reads g l = l.filled ≤ length l.room

abbrev pub decreases-reads : goal.decreases-reads
decreases-reads g l = length l.room - l.filled
