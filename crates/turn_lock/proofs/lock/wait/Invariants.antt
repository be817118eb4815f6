use Rattle.std.proofs.Common.{◌≡◌, true}
use Rattle.turn_lock.specs.Steps.{IsWaiting}
use Rattle.turn_lock.proofs.lock.wait.Given as goal

abbrev pub invariant-loop : goal.invariant-loop
invariant-loop g l = record {
  place : (l.seat.table_id ≡ l.initial.seat.table_id)
      × (l.seat.id ≡ l.initial.seat.id);
  same : l.seat.me ≡ l.initial.seat.me;
  live : l.seat.me.0.live ≡ true;
  waits :
      IsWaiting l.fn.drawn l.seat.me;
}
