use Rattle.std.proofs.Common.{◌-◌, length, sym, ap, ◌∙◌}
use Rattle.shop_base.specs.Rows.{with_room, sharing_seat, unloading_seat}
use Rattle.shop_desk.specs.Ledgers.{desk_row}
use Rattle.shop_desk.proofs.Acting.{exclusive_state}
use Rattle.shop_desk.proofs.Guarding.{take_unload_guard, guard_true}
use Rattle.shop_desk.proofs.desk.Desk.unload.Goals.{in-Done, in-Refused}
use Rattle.shop_desk.proofs.desk.Desk.unload.Goals as goal

pub seek_unload-requires-clause-busy : goal.seek_unload-requires-clause-busy
seek_unload-requires-clause-busy g c =
    let alone =
    exclusive_state g.M.Matter.facts g.met.M.Matter.same_is_equal 64 c.args.self.now.state c.act.ensures.after in
    let refused = c.act.ensures.refused _ _ c.in-Refused.is in
    let same = refused.2 in
    rw same (guard_true _ _ _ (sym (take_unload_guard g.M.Matter.facts c.args.self.now.state c.args.seat alone
    c.requires.shares) ∙ refused.0))

pub returns-clause-taken_row : goal.returns-clause-taken_row
returns-clause-taken_row g c = λ taken.
    elim c.match-act.branch [
      | in-Done w ↦
          ap (λ d. desk_row d c.args.seat) w.self-is
          ∙ (c.act.ensures.row w.in-Done.is sharing_seat c.requires.shares
          ∙ (λ i. with_room (unloading_seat (length c.args.self.now.state.history))
          (c.entries_of-entries.ensures i - 2) (c.values_of-values.ensures i)))
      | in-Refused w ↦ absurd (let answer = w.result-is in cc)
    ]
