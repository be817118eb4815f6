use Rattle.std.proofs.Common.{◌≡◌, ◌++◌, take}
use Rattle.program_tables.proofs.asks.push_all.Given as goal

abbrev pub invariant-tasks : goal.invariant-tasks
invariant-tasks l = l.tasks.items ≡ l.fn.tasks.items ++ take l.task-index l.all
