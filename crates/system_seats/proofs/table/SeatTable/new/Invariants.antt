use Rattle.std.proofs.Common.{◌≡◌, replicate}
use Rattle.system_seats.specs.Copies.{resting}
use Rattle.system_seats.proofs.table.SeatTable.new.Given as goal

abbrev pub invariant-seats : goal.invariant-seats
invariant-seats l = l.rows.items ≡ replicate l.counter resting
