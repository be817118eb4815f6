use Rattle.std.proofs.Common.{arith, rules, tests}
use Rattle.ruby_types.proofs.PrefixLaws.{agree_one_more}
use Rattle.ruby_types.proofs.identical.identical_paths.Goals as goal

pub names-preserved : goal.names-preserved
names-preserved c =
    agree_one_more _ _ _ _ c.names.i c.s-item.result c.index-ys-i.result c.as_slice-s-items.ensures
    c.as_slice-ys.ensures (omega arith) c.names-test.true c.s-item.is c.index-ys-i.is c.names.invariant
    (c.identical_texts.ensures (search (rules, tests)))
