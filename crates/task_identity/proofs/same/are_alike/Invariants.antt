use Rattle.std.proofs.Common.{◌≡◌, length, bytes_eq}
use Rattle.std.specs.Cmp.Lexicographic.{pointwise}
use Rattle.task_identity.proofs.same.are_alike.Given as goal

abbrev pub invariant-names : goal.invariant-names
invariant-names l = pointwise bytes_eq l.left l.right ≡ pointwise bytes_eq l.a l.b

abbrev pub decreases-names : goal.decreases-names
decreases-names l = length l.left
