use Rattle.std.proofs.Common.{◌≡◌, take, map}
use Rattle.ruby_builtin_hashes.specs.Pairs as spec
use Rattle.ruby_builtin_hashes.proofs.listing.pair_arrays.Given as goal

abbrev pub invariant-loop-pair : goal.invariant-loop-pair
invariant-loop-pair l = l.all.items ≡ map spec.pair_array (take l.pair-index l.pairs)
