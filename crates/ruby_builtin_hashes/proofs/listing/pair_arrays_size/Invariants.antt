use Rattle.std.proofs.Common.{◌≡◌, take, min, map, ◌-◌, ◌^◌}
use Rattle.std.specs.List.{sum}
use Rattle.ruby_types.specs.Size.{size}
use Rattle.ruby_builtin_hashes.specs.Pairs as spec
use Rattle.ruby_builtin_hashes.proofs.listing.pair_arrays_size.Given as goal

abbrev pub invariant-loop-pair : goal.invariant-loop-pair
invariant-loop-pair l =
    l.total ≡ min (sum (map (λ p. size (spec.pair_array p)) (take l.pair-index l.pairs))) (2 ^ 64 - 1)
