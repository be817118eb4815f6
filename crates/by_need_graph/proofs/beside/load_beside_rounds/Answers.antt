use Rattle.std.proofs.Common.{rules, ◌≡◌, ◌<◌, true, length, arith}
use Rattle.by_need.specs.Rounds.{known}
use Rattle.by_need_graph.specs.Graph.{rules_of}
use Rattle.by_need_graph.specs.GraphLaws.{in_below}
use Rattle.by_need_graph.proofs.Facts.{below_in, part_from}
use Rattle.by_need_graph.proofs.beside.load_beside_rounds.Goals as goal

pub load-requires-clause-task : goal.load-requires-clause-task
load-requires-clause-task c =
    let b = c.len-count.ensures in
    let o = c.args.graph.now.bodies.ok.0 in
    let f = c.if-task-count.false in
    let lt : c.args.task < length c.args.graph.now.bodies.items = omega (arith, b, o, f) in
    in_below (length c.args.graph.now.bodies.items) c.args.task lt

pub load-requires-clause-part : goal.load-requires-clause-part
load-requires-clause-part c =
    let b = c.len-count.ensures in
    let n = c.len.ensures in
    let m = c.len-2.ensures in
    let o = c.args.graph.now.bodies.ok.0 in
    let p = c.args.table.now.values.ok.0 in
    let f = c.if-len.false in
    let l : length c.args.table.now.values.items ≡ c.len-count.result = omega (arith, b, n, m, o, p, f) in
    let q : c.all_agree.result ≡ true = search rules in
    let a = rw (c.deref.ensures.value, c.deref-2.ensures.value) at (c.all_agree.ensures.agree q) in
    part_from c.args.table.now.values.items c.in_ok-known.known.items
    (known (rules_of c.args.graph.now.bodies.items)) c.len-count.result l a c.in_ok-known.ensures.known

pub returns-then-task-count-clause-refused : goal.returns-then-task-count-clause-refused
returns-then-task-count-clause-refused c =
    λ none task_is length_is part.
    let lt = below_in (length c.args.graph.now.bodies.items) c.args.task task_is in
    let b = c.len-count.ensures in
    let o = c.args.graph.now.bodies.ok.0 in
    let f = c.if-task-count.true in
    omega (arith, lt, b, o, f)
