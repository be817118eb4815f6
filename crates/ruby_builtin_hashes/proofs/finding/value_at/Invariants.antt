use Rattle.std.proofs.Common.{◌≡◌, drop}
use Rattle.ruby_builtin_hashes.specs.Pairs as spec
use Rattle.ruby_builtin_hashes.proofs.finding.value_at.Given as goal

abbrev pub invariant-loop-pair : goal.invariant-loop-pair
invariant-loop-pair l = spec.value_at (drop l.pair-index l.pairs) l.key ≡ spec.value_at l.pairs l.key
