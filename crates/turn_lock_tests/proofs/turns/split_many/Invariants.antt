use Rattle.std.proofs.Common.{◌≡◌, All}
use Rattle.turn_lock_tests.specs.Ready.{IsReady}
use Rattle.turn_lock_tests.proofs.turns.split_many.Given as goal

abbrev pub invariant-loop : goal.invariant-loop
invariant-loop l = record {
  ready : IsReady l.lock l.first;
  first : l.first.number ≡ 0;
  others : All
      (IsReady l.lock) l.tickets.items;
}
