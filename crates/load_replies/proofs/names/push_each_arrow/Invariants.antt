use Rattle.std.proofs.Common.{◌≡◌, ◌++◌, take}
use Rattle.std.specs.List.{flat_map}
use Rattle.load_replies.specs.Arrows.{arrow}
use Rattle.load_replies.proofs.names.push_each_arrow.Given as goal

abbrev pub invariant-tasks : goal.invariant-tasks
invariant-tasks l = l.written.items ≡ l.initial.written.items ++ flat_map arrow (take l.task-index l.tasks)
