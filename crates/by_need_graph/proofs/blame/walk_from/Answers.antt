use Rattle.std.proofs.Common.{◌≡◌, ◌+◌, suc, [], ◌∷◌, ◌++◌, arith, sym, ap, ◌∙◌}
use Rattle.by_need.specs.Blame.{follow, next, walk}
use Rattle.by_need_graph.specs.Graph.{rules_of}
use Rattle.by_need.proofs.Blames.{follow_suc}
use Rattle.by_need_graph.proofs.Ways.{walk_last}
use Rattle.by_need_graph.proofs.blame.walk_from.Goals as goal

pub questions-preserved : goal.questions-preserved
questions-preserved c =
    let r = rules_of c.args.graph.now.bodies.items in
    let k : suc c.questions._question ≡ c.questions._question + 1 = omega arith in
    record {
      last_is = c.next_task-last.ensures ∙ ap (next r) c.questions.invariant.last_is
          ∙ sym (follow_suc r c.questions._question c.args.task) ∙ ap (λ n. follow r n c.args.task) k;
      way_is = c.in_ok-push.ensures.items ∙ ap (λ ts. ts ++ c.questions.last ∷ []) c.questions.invariant.way_is
          ∙ ap (λ t. walk r c.questions._question c.args.task ++ t ∷ []) c.questions.invariant.last_is
          ∙ sym (walk_last r c.questions._question c.args.task) ∙ ap (λ n. walk r n c.args.task) k;
    }
