use Rattle.std.proofs.Common.{sym, subst, ◌∙◌}
use Rattle.by_need.specs.Open.{AllTasks}
use Rattle.by_need_loader.proofs.Rings.{cut_tail, tasks_from}
use Rattle.by_need_loader.proofs.ring.ring_from.Goals as goal

pub returns : goal.returns
returns g c =
    let r = g.Y.Theory.rules c.args.theory.now in
    let ts = c.args.tasks.items in
    let cut = cut_tail ts _ _ c.len-2.result c.args.place (c.len-2.ensures ∙ c.args.tasks.ok.0)
    c.rotate_left.ensures.items c.truncate.ensures.items in
    λ lt all. rw cut at (c.from_least.ensures (subst (AllTasks r) (sym cut) (tasks_from r ts c.args.place all)))
