use Rattle.std.proofs.Common.{◌≡◌, take, min, map, ◌-◌, ◌^◌}
use Rattle.std.specs.List.{sum}
use Rattle.ruby_types.specs.Size.{size}
use Rattle.ruby_types.specs.declared.value.Value.{Value}
use Rattle.ruby_builtin_hashes.proofs.listing.keys_size.Given as goal

abbrev pub invariant-loop-pair : goal.invariant-loop-pair
invariant-loop-pair l = l.total ≡ min (sum (map (λ (p : Value × Value). size p.0) (take l.pair-index l.pairs)))
    (2 ^ 64 - 1)
