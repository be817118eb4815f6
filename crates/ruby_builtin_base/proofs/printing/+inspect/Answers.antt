use Rattle.std.proofs.Common.{arith}
use Rattle.std.proofs.lemmas.Grind.{common_steps}
use Rattle.ruby_builtin_base.proofs.Joins.{joined-more, inspect-Hash, inspect-Object, pair_steps}
use Rattle.ruby_builtin_base.specs.Printed.{inspect, inspect_pair}
use Rattle.ruby_builtin_base.proofs.printing.+inspect.Goals as goal

pub push_items-loop-item-preserved : goal.push_items-loop-item-preserved
push_items-loop-item-preserved t c =
    joined-more inspect _ _ c.item-item.result _ _ _ _ _ (omega arith) c.item-item.is c.loop-item.invariant
    c.in_ok-push_comma.ensures c.in_ok-push_inspect.ensures

pub push_pairs-loop-key-preserved : goal.push_pairs-loop-key-preserved
push_pairs-loop-key-preserved t c =
    joined-more inspect_pair _ _ c.loop-key-item.result _ _ c.push_comma.new.out.items _ _ (omega arith)
    c.loop-key-item.is c.loop-key.invariant c.in_ok-push_comma.ensures
    (pair_steps _ _ _ _ _ _ c.in_ok-push_inspect.ensures c.in_ok-extend_from_slice.ensures.items
    c.in_ok-push_inspect-2.ensures)

pub push_inspect-returns-in_ok-push-in-Hash-2 : goal.push_inspect-returns-in_ok-push-in-Hash-2
push_inspect-returns-in_ok-push-in-Hash-2 t c = let e = inspect-Hash c.in-Hash.pairs in grind (arith, common_steps)

pub push_inspect-returns-in_ok-push-in-Object : goal.push_inspect-returns-in_ok-push-in-Object
push_inspect-returns-in_ok-push-in-Object t c =
    let e = inspect-Object c.in-Object.class c.in-Object.field-1 in grind (arith, common_steps)
