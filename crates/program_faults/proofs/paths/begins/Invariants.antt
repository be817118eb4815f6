use Rattle.std.proofs.Common.{◌≡◌, length}
use Rattle.program_places.specs.Paths.{begins}
use Rattle.program_faults.proofs.paths.begins.Given as goal

abbrev pub invariant-names : goal.invariant-names
invariant-names l = begins l.left l.right ≡ begins l.front l.path

abbrev pub decreases-names : goal.decreases-names
decreases-names l = length l.left
