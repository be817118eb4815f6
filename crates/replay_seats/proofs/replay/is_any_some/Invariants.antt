use Rattle.std.proofs.Common.{◌≡◌, drop, is_some}
use Rattle.std.specs.List.{list_any}
use Rattle.replay_seats.proofs.replay.is_any_some.Given as goal

abbrev pub invariant-seats : goal.invariant-seats
invariant-seats g l = list_any is_some (drop l.seat-index l.seats) ≡ list_any is_some l.seats
