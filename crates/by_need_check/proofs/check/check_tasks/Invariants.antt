use Rattle.std.proofs.Common.{length}
use Rattle.by_need_check.proofs.Each.{IsAmid}
use Rattle.by_need_check.proofs.check.check_tasks.Given as goal

abbrev pub invariant-tasks : goal.invariant-tasks
invariant-tasks g l = IsAmid (g.Y.Theory.rules l.theory) (g.B.Table.at l.initial.table) l.tasks l.left
    (g.B.Table.at l.table) l.defined.items l.failed.items

abbrev pub decreases-tasks : goal.decreases-tasks
decreases-tasks g l = length l.left
