use Rattle.std.proofs.Common.{◌≡◌, take}
use Rattle.program_tables.specs.Asks.{all_asks}
use Rattle.program_tables.proofs.asks.asks_of.Given as goal

abbrev pub invariant-places : goal.invariant-places
invariant-places l = l.asks.items ≡ all_asks l.standings.spelled (take l.place l.texts) (take l.place l.outcomes)
