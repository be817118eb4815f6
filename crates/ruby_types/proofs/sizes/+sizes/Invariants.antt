use Rattle.std.proofs.Common.{◌≡◌, take, min, map, ◌-◌, ◌^◌}
use Rattle.std.specs.List.{sum}
use Rattle.ruby_types.specs.Size as spec
use Rattle.ruby_types.proofs.sizes.+sizes.Given as goal

abbrev pub invariant-items_size-loop-item : goal.invariant-items_size-loop-item
invariant-items_size-loop-item l = l.total ≡ min (sum (map spec.size (take l.item-index l.items))) (2 ^ 64 - 1)

abbrev pub invariant-pairs_size-loop-key : goal.invariant-pairs_size-loop-key
invariant-pairs_size-loop-key l = l.total ≡ min (sum (map spec.pair_size (take l.key-index l.pairs))) (2 ^ 64 - 1)
