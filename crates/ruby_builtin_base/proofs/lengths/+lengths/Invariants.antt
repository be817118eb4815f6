use Rattle.std.proofs.Common.{◌≡◌, ◌-◌, ◌^◌, length, min, take, map}
use Rattle.ruby_builtin_base.proofs.Joins.{is_nil}
use Rattle.ruby_builtin_base.specs.Printed.{joined, inspect, inspect_pair}
use Rattle.ruby_builtin_base.proofs.lengths.+lengths.Given as goal

abbrev pub invariant-items_len-loop-item : goal.invariant-items_len-loop-item
invariant-items_len-loop-item l =
    (l.first ≡ is_nil (take l.item-index l.items))
    × (l.total ≡ min (length (joined (map inspect (take l.item-index l.items)))) (2 ^ 64 - 1))

abbrev pub invariant-pairs_len-loop-key : goal.invariant-pairs_len-loop-key
invariant-pairs_len-loop-key l =
    (l.first ≡ is_nil (take l.key-index l.pairs))
    × (l.total ≡ min (length (joined (map inspect_pair (take l.key-index l.pairs)))) (2 ^ 64 - 1))
