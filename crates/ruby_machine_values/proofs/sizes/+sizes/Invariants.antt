use Rattle.std.proofs.Common.{◌≡◌, ◌+◌, take, map}
use Rattle.std.specs.List.{sum}
use Rattle.ruby_types.specs.Size as spec
use Rattle.ruby_machine_values.proofs.sizes.+sizes.Given as goal

abbrev pub invariant-without_items-loop-item : goal.invariant-without_items-loop-item
invariant-without_items-loop-item l = l.left ≡ sum (map spec.size (take l.item-index l.items)) + l.rest

abbrev pub invariant-without_pairs-loop-key : goal.invariant-without_pairs-loop-key
invariant-without_pairs-loop-key l = l.left ≡ sum (map spec.pair_size (take l.key-index l.pairs)) + l.rest
