use Rattle.std.proofs.Common.{◌≡◌, ◌++◌, take}
use Rattle.program_tables.specs.Tables.{owned_tasks}
use Rattle.program_tables.proofs.tables.push_tasks.Given as goal

abbrev pub invariant-tasks : goal.invariant-tasks
invariant-tasks l = l.owned.items ≡ l.fn.owned.items ++ owned_tasks l.file (take l.task-index l.tasks)
