use Rattle.std.proofs.Common.{not, arith}
use Rattle.app_config.specs.Indexes.Arranged.{has_star}
use Rattle.app_config.proofs.MemberLaws.{IsPermutation-kept}
use Rattle.app_config.proofs.plain_patterns.plain_patterns.Goals as goal

pub returns : goal.returns
returns c = record {
  same = IsPermutation-kept (λ one. one.now) (λ pattern. not (has_star pattern)) c.args.patterns.now
      c.patterns.pattern-index c.patterns.plain.items c.sort.new.self.items c.patterns.invariant (omega arith)
      c.sort.ensures.permutation;
  sorted = c.in_ok-sort.ensures.sorted;
}
