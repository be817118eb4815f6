use Rattle.std.proofs.Common.{length}
use Rattle.ruby_builtin_cases.proofs.reading.unescaped.Given as goal

abbrev pub decreases-bytes : goal.decreases-bytes
decreases-bytes l = length l.rest
