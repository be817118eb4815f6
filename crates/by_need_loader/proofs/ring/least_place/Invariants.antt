use Rattle.std.proofs.Common.{◌<◌}
use Rattle.by_need.specs.Open.{AllTasks}
use Rattle.by_need_loader.proofs.Rings.{LeastBelow}
use Rattle.by_need_loader.proofs.ring.least_place.Given as goal

abbrev pub invariant-loop-i : goal.invariant-loop-i
invariant-loop-i g l = record {
  within : l.best < l.i;
  least : AllTasks (g.Y.Theory.rules l.theory) l.tasks →
      LeastBelow (g.Y.Theory.rules l.theory).at_most l.tasks l.best l.i;
}
