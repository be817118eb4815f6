use Rattle.std.proofs.Common.{◌≡◌, replicate}
use Rattle.share_lock.specs.Rows.{resting_row}
use Rattle.share_lock.proofs.lock.LockState.new.Given as goal

abbrev pub invariant-seats : goal.invariant-seats
invariant-seats l = l.rows ≡ replicate l.counter resting_row
