use Rattle.std.proofs.Common.{◌≡◌, replicate, None}
use Rattle.program_used.proofs.constants.no_constants.Given as goal

abbrev pub invariant-files : goal.invariant-files
invariant-files l = l.constants.items ≡ replicate l.place None
