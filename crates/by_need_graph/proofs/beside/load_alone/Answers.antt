use Rattle.std.proofs.Common.{◌<◌, length, arith}
use Rattle.by_need_graph.specs.GraphLaws.{in_below}
use Rattle.by_need_graph.proofs.Facts.{nothing_part}
use Rattle.by_need_graph.proofs.beside.load_alone.Goals as goal

pub load-requires-clause-task : goal.load-requires-clause-task
load-requires-clause-task c =
    let b = c.len-count.ensures in
    let o = c.args.graph.now.bodies.ok.0 in
    let f = c.if-task-count.false in
    let lt : c.args.task < length c.args.graph.now.bodies.items = omega (arith, b, o, f) in
    in_below (length c.args.graph.now.bodies.items) c.args.task lt

pub load-requires-clause-part : goal.load-requires-clause-part
load-requires-clause-part c = nothing_part _ _ _ c.in_ok-no_values.ensures
