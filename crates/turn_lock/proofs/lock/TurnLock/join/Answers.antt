use Rattle.std.proofs.Common.{rules}
use Rattle.turn_lock.proofs.Keeping.{joins, compares}
use Rattle.turn_lock.proofs.Backing.{backed_joined}
use Rattle.turn_lock.proofs.lock.TurnLock.join.Goals as goal

pub join_seat-requires : goal.join_seat-requires
join_seat-requires g c = let b = g.B.Booked in let t = c.ticket.inside.seat in let o = c.other.inside.seat in
    let idle = c.other.invariant.idle (search rules) in (
      search rules,
      search rules,
      idle.1,
      search rules,
      joins b.history b.seat_of b.rows b.rest t.id o.id t.me.0 o.me.0 c.ticket.invariant.live
          c.other.invariant.live idle.0 (search rules),
    )

pub load-ticket-inside-requires : goal.load-ticket-inside-requires
load-ticket-inside-requires g c = let b = g.B.Booked in let s = c.join_seat.new.seat in
    (search rules, search rules, compares b.history b.seat_of b.rows b.rest _ s.id s.me.0 s.me.1 (search rules))

pub invariant_of-ticket : goal.invariant_of-ticket
invariant_of-ticket g c = let b = g.B.Booked in let t = c.ticket.inside in let o = c.other.inside in
    backed_joined b.history b.seat_of t.number t.seen_count t.next o.seen_count _ t.seat.me o.seat.me
    c.join_seat.new.seat.me c.load-ticket-inside.new.seat.me c.ticket.invariant c.other.invariant.counted
    (search rules) (search rules) c.load-ticket-inside.ensures.2
