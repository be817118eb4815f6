use Rattle.std.proofs.Common.{◌≡◌, length}
use Rattle.program_places.specs.Paths.{same_path}
use Rattle.program_faults.proofs.paths.is_same.Given as goal

abbrev pub invariant-names : goal.invariant-names
invariant-names l = same_path l.left l.right ≡ same_path l.path l.other

abbrev pub decreases-names : goal.decreases-names
decreases-names l = length l.left
