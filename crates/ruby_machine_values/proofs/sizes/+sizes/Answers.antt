use Rattle.std.proofs.Common.{arith}
use Rattle.std.proofs.lemmas.Grind.{common_steps}
use Rattle.ruby_types.specs.Size as spec
use Rattle.ruby_machine_values.proofs.SizeSums.{size-Hash, size-Object, too_large}
use Rattle.ruby_machine_values.proofs.sizes.+sizes.Goals as goal

pub without_items-returns-in-None : goal.without_items-returns-in-None
without_items-returns-in-None t c =
    too_large spec.size c.args.items.now c.loop-item.item-index c.item-item.result c.args.left c.loop-item.rest
    c.item-item.is c.loop-item-test.true c.loop-item.invariant c.in-None.ensures

pub without_pairs-returns-in-None : goal.without_pairs-returns-in-None
without_pairs-returns-in-None t c =
    let p = c.loop-key-item.result in
    too_large spec.pair_size c.args.pairs.now c.loop-key.key-index p c.args.left c.loop-key.rest c.loop-key-item.is
    c.loop-key-test.true c.loop-key.invariant (omega (arith, c.in-None.ensures))

pub without_pairs-returns-in-None-without_size : goal.without_pairs-returns-in-None-without_size
without_pairs-returns-in-None-without_size t c =
    let p = c.loop-key-item.result in
    too_large spec.pair_size c.args.pairs.now c.loop-key.key-index p c.args.left c.loop-key.rest c.loop-key-item.is
    c.loop-key-test.true c.loop-key.invariant (omega (arith, c.in-Some.ensures, c.in-None-without_size.ensures))

pub without_size-returns-in-Hash : goal.without_size-returns-in-Hash
without_size-returns-in-Hash t c = let e = size-Hash c.in-Hash.pairs in grind (arith, common_steps)

pub without_size-returns-in_ok-rest-in-Object : goal.without_size-returns-in_ok-rest-in-Object
without_size-returns-in_ok-rest-in-Object t c =
    let e = size-Object c.in-Object.class c.in-Object.variables in
    grind (arith, common_steps)
