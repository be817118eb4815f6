use Rattle.std.proofs.Common.{◌≡◌, ◌+◌, false, length, sym, ap, ◌∙◌}
use Rattle.system_events.specs.State.{is_in}
use Rattle.shop_base.specs.Rows.{with_room, seeking_seat}
use Rattle.shop_desk.specs.Ledgers.{desk_row}
use Rattle.shop_desk.proofs.Acting.{exclusive_state}
use Rattle.shop_desk.proofs.Guarding.{take_load_guard, guard_true}
use Rattle.shop_desk.proofs.desk.Desk.load.Goals as goal

pub seek_load-requires-clause-busy : goal.seek_load-requires-clause-busy
seek_load-requires-clause-busy g c =
    let alone =
    exclusive_state g.M.Matter.facts g.met.M.Matter.same_is_equal 64 c.args.self.now.state c.act.ensures.after in
    let refused = c.act.ensures.refused _ _ c.in-Refused.is in
    let same = refused.2 in
    let new : is_in g.M.Matter.facts c.args.task c.args.self.now.state.table ≡ false = cc in
    rw same (guard_true _ _ _ (sym (take_load_guard g.M.Matter.facts c.args.self.now.state c.args.seat alone
    c.args.task c.requires.runs new) ∙ refused.0))

pub returns-in-Some-clause-seeking_row : goal.returns-in-Some-clause-seeking_row
returns-in-Some-clause-seeking_row g c = λ seeking begun at.
    let refused = c.act.ensures.refused _ _ c.in-Refused.is in
    c.seek_load.ensures.row begun (ap (λ d. (desk_row d c.args.seat).seat) refused.2 ∙ at)
    ∙ ap (λ d. with_room (seeking_seat begun (length d.state.history)) (c.args.entries + 3) c.args.values) refused.2
