use Rattle.std.proofs.Common.{length, refl, ap, ◌∙◌}
use Rattle.share_lock.specs.Rows.{eligible}
use Rattle.shop_base.specs.Rows.{seat_row, with_room}
use Rattle.shop_base.specs.Acts.{list_of}
use Rattle.shop_desk.specs.Ledgers.{desk_row}
use Rattle.shop_desk.proofs.Guarding.{refused_row}
use Rattle.shop_desk.proofs.desk.Desk.refuse_reserved.Goals.{in-Done, in-Refused}
use Rattle.shop_desk.proofs.desk.Desk.refuse_reserved.Goals as goal

pub returns-clause-row : goal.returns-clause-row
returns-clause-row g c =
    elim c.match-act.branch [
      | in-Done w ↦
          let before = seat_row c.args.self.now.state.seats c.args.seat in
          let first = eligible (list_of before) c.args.self.now.state.seats.lock.rows in
          let place = length c.args.self.now.state.history in
          ap (λ d. desk_row d c.args.seat) w.self-is
          ∙ (c.act.ensures.row w.in-Done.is before refl
          ∙ ap (λ r. with_room r c.args.entries c.args.values)
          (refused_row first place before c.args.cause c.requires.other))
      | in-Refused w ↦
          let refused = c.act.ensures.refused _ _ w.in-Refused.is in
          ap (λ d. desk_row d c.args.seat) w.self-is
          ∙ (w.give_up.ensures.row
          ∙ ap (λ d. with_room (seat_row d.state.seats c.args.seat) c.args.entries c.args.values) refused.2)
    ]
