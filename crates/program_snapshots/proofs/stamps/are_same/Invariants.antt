use Rattle.std.proofs.Common.{◌≡◌, length}
use Rattle.program_snapshots.specs.Stamps.{same_stamps}
use Rattle.program_snapshots.proofs.stamps.are_same.Given as goal

abbrev pub invariant-stamps : goal.invariant-stamps
invariant-stamps l = same_stamps l.left l.right ≡ same_stamps l.stamps l.files

abbrev pub decreases-stamps : goal.decreases-stamps
decreases-stamps l = length l.left
