use Rattle.std.proofs.Common.{◌≡◌}
use Rattle.turn_lock_tests.specs.Ready.{IsReady}
use Rattle.turn_lock_tests.proofs.turns.add_many.Given as goal

abbrev pub invariant-loop : goal.invariant-loop
invariant-loop g l = record { ready : IsReady l.lock l.ticket; same : l.ticket.number ≡ l.fn.ticket.number }
