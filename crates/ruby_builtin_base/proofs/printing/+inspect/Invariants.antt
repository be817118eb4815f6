use Rattle.std.proofs.Common.{◌≡◌, ◌++◌, take, map}
use Rattle.ruby_builtin_base.proofs.Joins.{is_nil}
use Rattle.ruby_builtin_base.specs.Printed.{joined, inspect, inspect_pair}
use Rattle.ruby_builtin_base.proofs.printing.+inspect.Given as goal

abbrev pub invariant-push_items-loop-item : goal.invariant-push_items-loop-item
invariant-push_items-loop-item l =
    (l.first ≡ is_nil (take l.item-index l.items))
    × (l.out.items ≡ l.initial.out.items ++ joined (map inspect (take l.item-index l.items)))

abbrev pub invariant-push_pairs-loop-key : goal.invariant-push_pairs-loop-key
invariant-push_pairs-loop-key l =
    (l.first ≡ is_nil (take l.key-index l.pairs))
    × (l.out.items ≡ l.initial.out.items ++ joined (map inspect_pair (take l.key-index l.pairs)))
