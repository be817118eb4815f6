use Rattle.std.proofs.Common.{◌≡◌, take}
use Rattle.eager_tasks.specs.Loads.{all_tasks}
use Rattle.eager_tasks.proofs.loads.tasks_of_files.Given as goal

abbrev pub invariant-numbers : goal.invariant-numbers
invariant-numbers l = l.tasks.items ≡ all_tasks l.program (take l.number-index l.numbers)
