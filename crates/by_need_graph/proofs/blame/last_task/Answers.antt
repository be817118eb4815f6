use Rattle.std.proofs.Common.{◌≡◌, ◌+◌, suc, arith, sym, ap, ◌∙◌}
use Rattle.by_need.specs.Blame.{follow, next}
use Rattle.by_need_graph.specs.Graph.{rules_of}
use Rattle.by_need.proofs.Blames.{follow_suc}
use Rattle.by_need_graph.proofs.blame.last_task.Goals as goal

pub questions-preserved : goal.questions-preserved
questions-preserved c =
    let r = rules_of c.args.graph.now.bodies.items in
    let k : suc c.questions._question ≡ c.questions._question + 1 = omega arith in
    c.next_task-last.ensures ∙ ap (next r) c.questions.invariant
    ∙ sym (follow_suc r c.questions._question c.args.task) ∙ ap (λ n. follow r n c.args.task) k
