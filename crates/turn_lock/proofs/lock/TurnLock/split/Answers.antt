use Rattle.std.proofs.Common.{rules}
use Rattle.turn_lock.proofs.Keeping.{splits}
use Rattle.turn_lock.proofs.Backing.{backed_gave}
use Rattle.turn_lock.proofs.lock.TurnLock.split.Goals as goal

pub split_seat-seat-requires : goal.split_seat-seat-requires
split_seat-seat-requires g c = let b = g.B.Booked in let seat = c.ticket.inside.seat in (
  search rules,
  search rules,
  splits b.history b.seat_of b.rows b.rest seat.id seat.me.0 c.ticket.invariant.live
      (search rules) (search rules),
)

pub invariant_of-ticket : goal.invariant_of-ticket
invariant_of-ticket g c = let b = g.B.Booked in let t = c.ticket.inside in
    backed_gave b.history b.seat_of t.number t.seen_count t.next t.seat.me c.split_seat-seat.new.seat.me
    c.ticket.invariant c.if-ticket-ge-SEATS.false (search rules)
