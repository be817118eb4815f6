use Rattle.std.proofs.Common.{◌+◌, length, sym, ap, ◌∙◌}
use Rattle.system_events.specs.State.{is_in}
use Rattle.shop_base.specs.Rows.{with_room, loading_seat, seeking_seat}
use Rattle.shop_desk.specs.Ledgers.{setting_aside}
use Rattle.shop_desk.proofs.Acting.{set_back}
use Rattle.shop_desk.proofs.desk.Desk.first_load.Goals as goal

pub returns-in-Ok-clause-present : goal.returns-in-Ok-clause-present
returns-in-Ok-clause-present g c = λ is.
    let present = c.load.ensures.present (cc) in
    let aside = c.in-Ok.ensures.ok in
    let seat = c.args.seat in (
      sym (ap (λ d. is_in g.M.Matter.facts c.args.task d.state.table) aside) ∙ present.0,
      present.1
          ∙ ((λ i. setting_aside (aside i) seat (c.entries_of-entries.ensures i) (c.values_of-values.ensures i))
          ∙ set_back c.args.self.now seat _ _),
    )

pub returns-in-Ok-clause-taken_row : goal.returns-in-Ok-clause-taken_row
returns-in-Ok-clause-taken_row g c = λ is begun at.
    let aside = c.in-Ok.ensures.ok in
    c.load.ensures.taken_row (cc) begun (ap (λ r. r.seat) c.in-Ok.ensures.row ∙ at)
    ∙ (λ i. with_room (loading_seat begun (length (aside i).state.history)) (c.entries_of-entries.ensures i + 2)
    (c.values_of-values.ensures i))

pub returns-in-Ok-clause-seeking_row : goal.returns-in-Ok-clause-seeking_row
returns-in-Ok-clause-seeking_row g c = λ is begun at.
    let aside = c.in-Ok.ensures.ok in
    c.load.ensures.seeking_row (cc) begun (ap (λ r. r.seat) c.in-Ok.ensures.row ∙ at)
    ∙ (λ i. with_room (seeking_seat begun (length (aside i).state.history)) (c.entries_of-entries.ensures i + 3)
    (c.values_of-values.ensures i))
