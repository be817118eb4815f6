use Rattle.std.proofs.Common.{◌≡◌, drop}
use Rattle.by_need.specs.Asking.{over}
use Rattle.by_need_graph.specs.Graph.{asks, value_at}
use Rattle.by_need_graph.proofs.rounds.run_body.Given as goal

abbrev pub invariant-questions : goal.invariant-questions
invariant-questions l = (over (value_at l.values)
    (asks l.sum (drop l.question-index l.body.questions.items) l.body.ending)).answer
    ≡ (over (value_at l.values) (asks 1 l.body.questions.items l.body.ending)).answer
