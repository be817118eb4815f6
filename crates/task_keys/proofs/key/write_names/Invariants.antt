use Rattle.std.proofs.Common.{◌≡◌, length, fold}
use Rattle.task_keys.proofs.key.write_names.Given as goal

abbrev pub invariant-names : goal.invariant-names
invariant-names g l = fold g.H.Hasher.write l.state l.left ≡ fold g.H.Hasher.write l.initial.state l.names

abbrev pub decreases-names : goal.decreases-names
decreases-names g l = length l.left
