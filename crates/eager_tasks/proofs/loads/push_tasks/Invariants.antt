use Rattle.std.proofs.Common.{◌≡◌, ◌++◌, take}
use Rattle.eager_tasks.proofs.loads.push_tasks.Given as goal

abbrev pub invariant-tasks : goal.invariant-tasks
invariant-tasks l = l.tasks.items ≡ l.initial.tasks.items ++ take l.task-index l.more
