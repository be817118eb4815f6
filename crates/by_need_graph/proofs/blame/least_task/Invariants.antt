use Rattle.std.proofs.Common.{◌≡◌, List, drop}
use Rattle.by_need.specs.Blame.{least_of}
use Rattle.by_need_graph.specs.Graph.{rules_of}
use Rattle.by_need_graph.specs.declared.graph.Body.{Body}
use Rattle.by_need_graph.proofs.blame.least_task.Given as goal

abbrev pub invariant-others : goal.invariant-others
invariant-others l = (bodies : List Body) → least_of (rules_of bodies) l.least (drop l.other-index l.others)
    ≡ least_of (rules_of bodies) l.task l.others
