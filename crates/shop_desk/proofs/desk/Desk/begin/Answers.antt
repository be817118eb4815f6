use Rattle.std.proofs.Common.{◌∙◌}
use Rattle.shop_desk.specs.Ledgers.{setting_aside}
use Rattle.shop_desk.proofs.Acting.{on_err_map, set_back}
use Rattle.shop_desk.proofs.desk.Desk.begin.Goals as goal

pub returns-in-Ok-clause-refused : goal.returns-in-Ok-clause-refused
returns-in-Ok-clause-refused g c =
    let seat = c.args.seat in
    on_err_map c.begin_reserved.result _ _ (λ is.
    is ∙ ((λ i. setting_aside (c.in-Ok.ensures.ok i) seat (c.entries_of-entries.ensures i)
    (c.values_of-values.ensures i))
    ∙ set_back c.args.self.now seat _ _)) c.begin_reserved.ensures.refused
