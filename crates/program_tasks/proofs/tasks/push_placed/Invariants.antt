use Rattle.std.proofs.Common.{◌≡◌, ◌++◌, take}
use Rattle.program_tasks.specs.Placed.{placed_tasks}
use Rattle.program_tasks.proofs.tasks.push_placed.Given as goal

abbrev pub invariant-places : goal.invariant-places
invariant-places l = l.tasks.items ≡ l.fn.tasks.items
    ++ placed_tasks l.constant l.table 0 (take l.place l.constants) (take l.place l.kinds)
