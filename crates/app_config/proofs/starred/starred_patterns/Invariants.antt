use Rattle.std.proofs.Common.{◌≡◌, ◌++◌, drop, map}
use Rattle.std.specs.List.{filter, All}
use Rattle.app_config.specs.Indexes.Arranged.{has_star, slashes}
use Rattle.app_config.proofs.starred.starred_patterns.Given as goal

abbrev pub invariant-patterns : goal.invariant-patterns
invariant-patterns l = record {
  same : map (λ one. one.pattern.now) l.starred.items ++ filter has_star (drop l.text-index l.patterns)
      ≡ filter has_star l.patterns;
  counted : All (λ one. one.slashes ≡ slashes one.pattern.now) l.starred.items;
}
