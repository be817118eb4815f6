use Rattle.std.proofs.Common.{ap, ◌∙◌}
use Rattle.by_need.specs.Blame.{Circle}
use Rattle.by_need_graph.proofs.Ways.{blame_is}
use Rattle.by_need_graph.proofs.blame.blame_by_rounds.Goals as goal

pub returns-in-Done : goal.returns-in-Done
returns-in-Done c = ap Circle c.new.ensures.items
    ∙ blame_is c.args.graph.now.bodies.items c.args.values.now c.requires c.args.task c.last_task-last.result _ _
    c.last_task-last.ensures c.run_task.ensures c.in-Done.is

pub returns-in-Raised : goal.returns-in-Raised
returns-in-Raised c = blame_is c.args.graph.now.bodies.items c.args.values.now c.requires c.args.task
    c.last_task-last.result _ _ c.last_task-last.ensures c.run_task.ensures c.in-Raised.is

pub returns-in_ok-ring_on-in-Asks : goal.returns-in_ok-ring_on-in-Asks
returns-in_ok-ring_on-in-Asks c = ap Circle c.in_ok-ring_on-in-Asks.ensures
    ∙ blame_is c.args.graph.now.bodies.items c.args.values.now c.requires c.args.task c.last_task-last.result _ _
    c.last_task-last.ensures c.run_task.ensures c.in-Asks.is

pub returns-in-Otherwise : goal.returns-in-Otherwise
returns-in-Otherwise c = blame_is c.args.graph.now.bodies.items c.args.values.now c.requires c.args.task
    c.last_task-last.result _ _ c.last_task-last.ensures c.run_task.ensures c.in-Otherwise.is
