use Rattle.std.proofs.Common.{◌≡◌, None, replicate}
use Rattle.replay_seats.proofs.replay.empty_seats.Given as goal

abbrev pub invariant-seats : goal.invariant-seats
invariant-seats g l = l.seats.items ≡ replicate l.counter None
