use Rattle.std.proofs.Common.{◌≡◌, map, take}
use Rattle.eager_tasks.specs.Loads.{file_task}
use Rattle.eager_tasks.proofs.loads.tasks_for.Given as goal

abbrev pub invariant-numbers : goal.invariant-numbers
invariant-numbers l = l.tasks.items ≡ map (file_task l.files) (take l.number-index l.numbers)
