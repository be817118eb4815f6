use Rattle.std.proofs.Common.{◌≡◌, ◌++◌, drop, not}
use Rattle.std.specs.List.{filter}
use Rattle.app_config.specs.Indexes.Arranged.{has_star, texts}
use Rattle.app_config.proofs.plain_patterns.plain_patterns.Given as goal

abbrev pub invariant-patterns : goal.invariant-patterns
invariant-patterns l = texts l.plain.items ++ filter (λ pattern. not (has_star pattern))
    (drop l.pattern-index l.patterns)
    ≡ filter (λ pattern. not (has_star pattern)) l.patterns
