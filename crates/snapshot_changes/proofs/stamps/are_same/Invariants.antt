use Rattle.std.proofs.Common.{◌≡◌, length}
use Rattle.outside.specs.Tree.{stamps_of}
use Rattle.program_snapshots.specs.Stamps.{same_stamps}
use Rattle.snapshot_changes.proofs.stamps.are_same.Given as goal

abbrev pub invariant-files : goal.invariant-files
invariant-files l = same_stamps (stamps_of l.left) l.right ≡ same_stamps (stamps_of l.before) l.after

abbrev pub decreases-files : goal.decreases-files
decreases-files l = length l.left
