use Rattle.std.proofs.Common.{rules}
use Rattle.turn_lock.proofs.Keeping.{draws}
use Rattle.turn_lock.proofs.lock.draw.Goals as goal

pub fetch_add-requires : goal.fetch_add-requires
fetch_add-requires g c = let b = g.B.Booked in let seat = c.args.seat.now in (
  search rules,
  search rules,
  draws b.history b.seat_of b.rows b.rest _ seat.id seat.me.0 seat.me.1 (search rules)
      (search rules) (search rules),
)
