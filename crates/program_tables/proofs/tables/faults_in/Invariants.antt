use Rattle.std.proofs.Common.{◌≡◌, map, take}
use Rattle.program_tables.specs.Tables.{has_fault}
use Rattle.program_tables.proofs.tables.faults_in.Given as goal

abbrev pub invariant-outcomes : goal.invariant-outcomes
invariant-outcomes l = l.marks.items ≡ map has_fault (take l.outcome-index l.outcomes)
