use Rattle.std.proofs.Common.{rules, ◌≡◌, ◌∙◌, sym, subst, true, length, arith}
use Rattle.by_need_graph.specs.Graph.{questions_below}
use Rattle.by_need_graph.proofs.Facts.{below_are_tasks, nothing_part}
use Rattle.by_need_graph.proofs.beside.check_alone.Goals as goal

pub check_tasks-requires-clause-tasks : goal.check_tasks-requires-clause-tasks
check_tasks-requires-clause-tasks c =
    let yes : c.are_below.result ≡ true = search rules in
    let below = sym c.are_below.ensures ∙ yes in
    let len = c.len-count.ensures in
    let ok = c.args.graph.now.bodies.ok.0 in
    let same : c.len-count.result ≡ length c.args.graph.now.bodies.items = omega (arith, len, ok) in
    below_are_tasks c.args.graph.now.bodies.items c.args.tasks.now
    (subst (λ count. questions_below count c.args.tasks.now ≡ true) same below)

pub check_tasks-requires-clause-part : goal.check_tasks-requires-clause-part
check_tasks-requires-clause-part c = nothing_part _ _ _ c.in_ok-no_values.ensures
