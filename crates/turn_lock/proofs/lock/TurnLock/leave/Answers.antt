use Rattle.std.proofs.Common.{rules, subst}
use Rattle.turn_lock.proofs.Keeping.{ends_at, added_if}
use Rattle.turn_lock.specs.Entries.{NoneFrom}
use Rattle.turn_lock.proofs.Backing.{unused_left}
use Rattle.turn_lock.proofs.lock.TurnLock.leave.Goals as goal

pub put_home-requires-clause-added : goal.put_home-requires-clause-added
put_home-requires-clause-added g c = let b = g.B.Booked in let t = c.ticket.inside in
    added_if b.history b.seat_of c.args.value t.seat.me.0 c.length-length.result t.seen_count c.length-length.ensures
    c.ticket.invariant.counted (search rules)

pub fetch_add-ended-requires : goal.fetch_add-ended-requires
fetch_add-ended-requires g c = let b = g.B.Booked in let seat = c.put_home.new.seat in let t = c.ticket.inside in (
  search rules,
  search rules,
  ends_at b.history b.seat_of b.rows b.rest _ seat.id seat.me t.seat.me.0 c.args.value
      c.put_home.ensures.held c.ticket.invariant.live (search rules) (λ b' k. search rules),
)

pub invariant_of-ticket : goal.invariant_of-ticket
invariant_of-ticket g c = let b = g.B.Booked in let i = c.ticket.invariant in record {
  live = search rules;
  numbered = search rules;
  counted = search rules;
  given = search rules;
  small = i.small;
  few = i.few;
  begun = i.begun;
  unused = λ zero_th. subst (NoneFrom b.seat_of c.ticket.inside.next) (search rules)
      (unused_left b.history b.seat_of c.ticket.inside.seat.me.0 c.args.value c.ticket.inside.next (search rules)
      (i.begun zero_th) (i.unused zero_th) (search rules));
  idle = λ _. (search rules, search rules);
  busy = λ turn. absurd (search rules);
}
