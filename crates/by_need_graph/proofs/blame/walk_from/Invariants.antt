use Rattle.std.proofs.Common.{◌≡◌}
use Rattle.by_need.specs.Blame.{follow, walk}
use Rattle.by_need_graph.specs.Graph.{rules_of}
use Rattle.by_need_graph.proofs.blame.walk_from.Given as goal

abbrev pub invariant-questions : goal.invariant-questions
invariant-questions l = record {
  last_is : l.last ≡ follow (rules_of l.graph.bodies.items) l._question l.task;
  way_is : l.way.items ≡ walk (rules_of l.graph.bodies.items) l._question l.task;
}
