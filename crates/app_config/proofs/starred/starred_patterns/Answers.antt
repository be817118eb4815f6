use Rattle.std.proofs.Common.{◌≡◌, rules, arith}
use Rattle.std.proofs.lemmas.List.Sorted.{IsNonDecreasingBy-from_sort_by_key, All-permutation}
use Rattle.app_config.specs.Indexes.Arranged.{has_star, slashes}
use Rattle.app_config.proofs.MemberLaws.{IsPermutation-kept}
use Rattle.app_config.proofs.starred.starred_patterns.Goals as goal

pub returns : goal.returns
returns c = record {
  same = IsPermutation-kept (λ one. one.pattern.now) has_star c.args.patterns.now
      c.patterns.text-index c.patterns.starred.items c.sort_by_key.new.self.items c.patterns.invariant.same
      (omega arith)
      c.sort_by_key.ensures.permutation;
  by_count = record {
    counted = All-permutation (λ one. one.slashes ≡ slashes one.pattern.now) c.patterns.starred.items
        c.sort_by_key.new.self.items c.sort_by_key.ensures.permutation c.patterns.invariant.counted;
    sorted = IsNonDecreasingBy-from_sort_by_key (λ one. one.slashes) _ c.in_ok-sort_by_key.ensures.sorted
        (λ a r q k. search rules);
  };
}
