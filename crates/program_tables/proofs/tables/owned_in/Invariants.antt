use Rattle.std.proofs.Common.{◌≡◌, take}
use Rattle.program_tables.specs.Tables.{owned_in}
use Rattle.program_tables.proofs.tables.owned_in.Given as goal

abbrev pub invariant-places : goal.invariant-places
invariant-places l = l.owned.items ≡ owned_in 0 (take l.place l.outcomes)
