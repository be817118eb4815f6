use Rattle.by_need_graph.proofs.Ways.{ring_is}
use Rattle.by_need_graph.proofs.blame.ring_on.Goals as goal

pub returns : goal.returns
returns c = ring_is c.args.graph.now.bodies.items c.args.task c.least_task-least.result c.next_task.result
    c.in_ok-way.way.items c.deref.result.now c.in_ok-behind.behind.items c.deref-2.result.now c.in_ok-ring.ring.items
    c.in_ok-way.ensures c.deref.ensures.value (c.least_task-least.ensures c.args.graph.now.bodies.items)
    c.next_task.ensures c.in_ok-behind.ensures c.deref-2.ensures.value
    (c.in_ok-ring.ensures c.args.graph.now.bodies.items)
