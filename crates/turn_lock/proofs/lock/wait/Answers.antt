use Rattle.std.proofs.Common.{rules, subst, ap, sym, ◌∙◌, ◌%◌}
use Rattle.turn_lock.specs.Steps.{SeatState, HasTurn, number_or_0}
use Rattle.turn_lock.proofs.Keeping.{looks}
use Rattle.turn_lock.proofs.lock.wait.Goals as goal

pub load-served-requires : goal.load-served-requires
load-served-requires g c = let b = g.B.Booked in let seat = c.loop.seat in let i = c.loop.invariant in (
  search rules,
  search rules,
  looks b.history b.seat_of b.rows b.rest _ seat.id seat.me.0 seat.me.1 i.waits.0
      i.live i.waits.1 i.waits.3,
)

pub returns-then-served-drawn-clause-turn : goal.returns-then-served-drawn-clause-turn
returns-then-served-drawn-clause-turn g c = let b = g.B.Booked in let i = c.loop.invariant in
    subst (λ (m : SeatState g.row.B.Denot g.row.B-Entry.Denot g.row.B-Row.Denot).
    HasTurn b.history b.seat_of b.rows m c.load-served.new.seat.me) i.same
    (c.load-served.ensures.2.0 (c.if-served-drawn.true
    ∙ (i.waits.2 ∙ ap (λ o. number_or_0 o % 18446744073709551616) (sym i.waits.1))))
