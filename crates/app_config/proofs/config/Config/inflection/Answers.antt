use Rattle.std.proofs.Common.{◌-◌, arith, sym, ◌∙◌}
use Rattle.app_config.proofs.ReadLaws.{found-last, lacks-one_more}
use Rattle.app_config.proofs.config.Config.inflection.Goals as goal

pub returns-then-is_some : goal.returns-then-is_some
returns-then-is_some c =
    found-last c.args.self.now.inflect c.as_slice-pairs.result.now (c.pairs.left - 1) c.pairs.left c.args.base.now
    c.index-pairs-left.result c.constant_for-found.result
    c.as_slice-pairs.ensures (omega arith) (omega arith) c.index-pairs-left.is c.constant_for-found.ensures
    (sym c.is_some.ensures ∙ c.if-is_some.true) c.pairs.invariant.later

pub pairs-preserved : goal.pairs-preserved
pairs-preserved c = record {
  within = omega arith;
  later = lacks-one_more c.as_slice-pairs.result.now (c.pairs.left - 1) c.pairs.left c.args.base.now
      c.index-pairs-left.result c.constant_for-found.result
      (omega arith) (omega arith) c.index-pairs-left.is c.constant_for-found.ensures (sym c.is_some.ensures
      ∙ c.if-is_some.false) c.pairs.invariant.later;
}
