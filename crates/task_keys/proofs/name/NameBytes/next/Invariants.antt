use Rattle.std.proofs.Common.{◌≡◌}
use Rattle.task_keys.specs.Bytes.{bytes_left, pieces_left}
use Rattle.task_keys.proofs.name.NameBytes.next.Given as goal

abbrev pub invariant-pieces : goal.invariant-pieces
invariant-pieces l = bytes_left l.left ≡ bytes_left l.initial.self

abbrev pub decreases-pieces : goal.decreases-pieces
decreases-pieces l = pieces_left l.left
