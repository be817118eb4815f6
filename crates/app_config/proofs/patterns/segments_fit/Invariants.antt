use Rattle.std.proofs.Common.{◌≡◌, length}
use Rattle.app_config.specs.Loops.Matching.{all_fit}
use Rattle.app_config.specs.Paths.{segments}
use Rattle.app_config.proofs.patterns.segments_fit.Given as goal

abbrev pub invariant-segments : goal.invariant-segments
invariant-segments l = all_fit (segments l.pattern) (segments l.path) ≡ all_fit (segments l.initial.pattern)
    (segments l.initial.path)

abbrev pub decreases-segments : goal.decreases-segments
decreases-segments l = length l.pattern
