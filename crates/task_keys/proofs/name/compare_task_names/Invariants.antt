use Rattle.std.proofs.Common.{◌≡◌, length}
use Rattle.outside.specs.Order.{order}
use Rattle.task_keys.specs.Bytes.{bytes_left}
use Rattle.task_keys.specs.Names.{task_name}
use Rattle.task_keys.proofs.name.compare_task_names.Given as goal

abbrev pub invariant-bytes : goal.invariant-bytes
invariant-bytes l = order (bytes_left l.left) (bytes_left l.right) ≡ order (task_name l.a) (task_name l.b)

abbrev pub decreases-bytes : goal.decreases-bytes
decreases-bytes l = length (bytes_left l.left)
