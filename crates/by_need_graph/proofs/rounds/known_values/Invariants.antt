use Rattle.std.proofs.Common.{◌≡◌, ℕ, length}
use Rattle.by_need.specs.Rounds.{round}
use Rattle.by_need_graph.specs.Graph.{rules_of, value_at}
use Rattle.by_need_graph.proofs.rounds.known_values.Given as goal

abbrev pub invariant-rounds : goal.invariant-rounds
invariant-rounds l = record {
  length_is : length l.values.items ≡ length l.graph.bodies.items;
  known : (t : ℕ) → value_at l.values.items t ≡ round (rules_of l.graph.bodies.items) l._done t;
}
