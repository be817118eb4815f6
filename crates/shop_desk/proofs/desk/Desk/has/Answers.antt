use Rattle.std.proofs.Common.{sym, ap, ◌∙◌, is_some}
use Rattle.system_events.specs.State.{is_in}
use Rattle.system_core.proofs.Finding.{is_in_lookup, map_some}
use Rattle.shop_desk.proofs.desk.Desk.has.Goals as goal

pub returns : goal.returns
returns g c =
    c.is_some.ensures
    ∙ (sym (map_some (λ value. value.now) c.value.result)
    ∙ (ap is_some c.value.ensures
    ∙ (is_in_lookup g.M.Matter.facts c.args.task.now c.self.inside.system.state.table
    ∙ ap (λ d. is_in g.M.Matter.facts c.args.task.now d.state.table) c.self.view_is)))
