use Rattle.std.proofs.Common.{◌≡◌}
use Rattle.by_need.specs.Blame.{follow}
use Rattle.by_need_graph.specs.Graph.{rules_of}
use Rattle.by_need_graph.proofs.blame.last_task.Given as goal

abbrev pub invariant-questions : goal.invariant-questions
invariant-questions l = l.last ≡ follow (rules_of l.graph.bodies.items) l._question l.task
