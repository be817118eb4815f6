use Rattle.std.proofs.Common.{sym, ◌∙◌}
use Rattle.shop_desk.proofs.Acting.{exclusive_state}
use Rattle.shop_desk.proofs.Guarding.{take_sought_guard, guard_true}
use Rattle.shop_desk.proofs.desk.Desk.take_sought.Goals as goal

pub returns-in-Refused-clause-busy : goal.returns-in-Refused-clause-busy
returns-in-Refused-clause-busy g c = λ some.
    let alone =
    exclusive_state g.M.Matter.facts g.met.M.Matter.same_is_equal 64 c.args.self.now.state c.act.ensures.after in
    let refused = c.act.ensures.refused _ _ c.in-Refused.is in
    guard_true _ _ _ (sym (take_sought_guard g.M.Matter.facts c.args.self.now.state c.args.seat alone
    g.met.M.Matter.same_is_equal c.args.task c.requires.seeks c.requires.sought) ∙ refused.0)
