use Rattle.std.proofs.Common.{◌≡◌, ◌<◌, ℕ, Some}
use Rattle.by_need_graph.specs.Graph.{value_at}
use Rattle.by_need_graph.proofs.beside.all_agree.Given as goal

abbrev pub invariant-tasks : goal.invariant-tasks
invariant-tasks l = (t v : ℕ) → t < l.task → value_at l.values t ≡ Some v → value_at l.known t ≡ Some v
