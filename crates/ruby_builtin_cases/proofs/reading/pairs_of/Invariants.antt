use Rattle.std.proofs.Common.{length}
use Rattle.ruby_builtin_cases.proofs.reading.pairs_of.Given as goal

abbrev pub decreases-pairs : goal.decreases-pairs
decreases-pairs l = length l.rest
