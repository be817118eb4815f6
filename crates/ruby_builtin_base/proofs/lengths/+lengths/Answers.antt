use Rattle.std.proofs.Common.{arith}
use Rattle.ruby_builtin_base.proofs.Joins.{length-joined-more, length-pair, length-inspect-Hash, length-inspect-Object}
use Rattle.ruby_builtin_base.specs.Printed.{inspect, inspect_pair}
use Rattle.ruby_builtin_base.proofs.lengths.+lengths.Goals as goal

pub inspect_len-returns-in-Hash : goal.inspect_len-returns-in-Hash
inspect_len-returns-in-Hash t c =
    rw (c.in-Hash.is, length-inspect-Hash c.in-Hash.pairs, ← c.as_slice-in-Hash.ensures) (omega arith)

pub inspect_len-returns-in-Object : goal.inspect_len-returns-in-Object
inspect_len-returns-in-Object t c =
    rw (c.in-Object.is, length-inspect-Object c.in-Object.class c.in-Object.field-1) (omega arith)

pub items_len-loop-item-preserved : goal.items_len-loop-item-preserved
items_len-loop-item-preserved t c =
    length-joined-more inspect _ _ c.item-item.result _ _ _ _ _ _ (omega arith) c.item-item.is c.loop-item.invariant
    c.comma_len.ensures c.inspect_len.ensures (omega arith)

pub pairs_len-loop-key-preserved : goal.pairs_len-loop-key-preserved
pairs_len-loop-key-preserved t c =
    length-joined-more inspect_pair _ _ c.loop-key-item.result _ _ c.saturating_add-pair.result _ _ _
    (omega arith) c.loop-key-item.is
    c.loop-key.invariant c.comma_len.ensures (omega (arith, length-pair c.loop-key-item.result)) (omega arith)
