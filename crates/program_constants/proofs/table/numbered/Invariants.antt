use Rattle.std.proofs.Common.{◌≡◌, take}
use Rattle.program_constants.specs.Constants.{numbered_from}
use Rattle.program_constants.proofs.table.numbered.Given as goal

abbrev pub invariant-places : goal.invariant-places
invariant-places l = l.spelled.items ≡ numbered_from 0 (take l.place l.constants)
