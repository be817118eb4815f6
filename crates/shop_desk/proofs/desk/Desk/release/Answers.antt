use Rattle.std.proofs.Common.{◌-◌, sym, ap, ◌∙◌}
use Rattle.system_seats.specs.declared.table.SystemRow.{SystemRow}
use Rattle.system_seats.specs.Seats.{is_calm}
use Rattle.share_lock.specs.Rows.{eligible}
use Rattle.shop_base.specs.Rows.{with_room, seat_row, exclusive_seat}
use Rattle.shop_base.specs.Acts.{list_of}
use Rattle.shop_desk.specs.Ledgers.{desk_row}
use Rattle.shop_desk.proofs.Acting.{exclusive_state}
use Rattle.shop_desk.proofs.Guarding.{release_passes, released_calm, released_waits}
use Rattle.shop_desk.proofs.desk.Desk.release.Goals as goal

pub unreachable-requires : goal.unreachable-requires
unreachable-requires g c =
    let alone =
    exclusive_state g.M.Matter.facts g.met.M.Matter.same_is_equal 64 c.args.self.now.state c.act.ensures.after in
    let done =
    c.act.ensures.passed (release_passes g.M.Matter.facts c.args.self.now.state c.args.seat alone _ _
    c.requires.exclusive.1) in
    let refused = c.in-Refused.is in cc

pub returns-clause-free : goal.returns-clause-free
returns-clause-free g c = λ calm.
    let after_release = c.act.ensures.row c.in-Done.is _ c.requires.exclusive.1 in
    let seat_is = ap (λ r. r.seat) after_release in
    let running = (seat_row c.args.self.now.state.seats c.args.seat).running in
    let first = eligible (list_of (exclusive_seat running c.requires.exclusive.0))
    c.args.self.now.state.seats.lock.rows in
    let is_so =
    ap (λ (r : SystemRow). is_calm r.lock.phase) (sym seat_is) ∙ (sym c.give_up_resume.ensures.calm ∙ calm) in
    c.give_up_resume.ensures.free_row calm
    ∙ (λ i. with_room ((seat_is ∙ released_calm first running is_so) i) (c.entries_of-entries.ensures i - 2)
    (c.values_of-values.ensures i))

pub returns-clause-waits : goal.returns-clause-waits
returns-clause-waits g c = λ waits.
    let after_release = c.act.ensures.row c.in-Done.is _ c.requires.exclusive.1 in
    let seat_is = ap (λ r. r.seat) after_release in
    let running = (seat_row c.args.self.now.state.seats c.args.seat).running in
    let first = eligible (list_of (exclusive_seat running c.requires.exclusive.0))
    c.args.self.now.state.seats.lock.rows in
    let is_so = ap (λ (r : SystemRow). is_calm r.lock.phase) (sym seat_is)
    ∙ (sym c.give_up_resume.ensures.calm ∙ waits) in
    ap (λ d. desk_row d c.args.seat) (c.give_up_resume.ensures.waits waits)
    ∙ (after_release
    ∙ (λ i. with_room (released_waits first running is_so i) (c.entries_of-entries.ensures i - 1)
    (c.values_of-values.ensures i)))
