use Rattle.std.proofs.Common.{◌≡◌, ◌<◌, ℕ, length}
use Rattle.by_need.specs.Rounds.{value_or}
use Rattle.by_need_graph.specs.Graph.{rules_of, value_at}
use Rattle.by_need_graph.proofs.rounds.next_round.Given as goal

abbrev pub invariant-tasks : goal.invariant-tasks
invariant-tasks l = record {
  length_is : length l.next.items ≡ l.task;
  round : (t : ℕ) → t < l.task →
      value_at l.next.items t ≡ value_or (value_at l.values t)
      ((rules_of l.graph.bodies.items).run t (value_at l.values)).answer;
}
