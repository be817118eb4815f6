use Rattle.std.proofs.Common.{◌≡◌, List, ◌∷◌, ◌++◌, drop}
use Rattle.by_need.specs.Blame.{until}
use Rattle.by_need_graph.specs.Graph.{rules_of}
use Rattle.by_need_graph.specs.declared.graph.Body.{Body}
use Rattle.by_need_graph.proofs.blame.ring_with.Given as goal

abbrev pub invariant-behind : goal.invariant-behind
invariant-behind l = (bodies : List Body) →
    l.ring.items ++ until (rules_of bodies) l.task (drop l.other-index l.behind)
    ≡ l.task ∷ until (rules_of bodies) l.task l.behind
