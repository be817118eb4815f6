use Rattle.std.proofs.Common.{rules}
use Rattle.turn_lock.proofs.Keeping.{records_at, exchanged_is}
use Rattle.turn_lock.proofs.lock.put_home.Goals as goal

pub fetch_add-requires : goal.fetch_add-requires
fetch_add-requires g c = let b = g.B.Booked in let seat = c.exchange.new.seat in let old = c.args.seat.now.me in
    let turn = c.requires.turn in (
      search rules,
      search rules,
      records_at b.history b.seat_of b.rows b.rest _ seat.id seat.me old.0 c.args.value
          (exchanged_is old seat.me c.args.value turn.1 c.exchange.ensures.3) c.requires.live turn.0 (search rules),
    )
