use Rattle.std.proofs.Common.{◌≡◌, length}
use Rattle.app_config.specs.Loops.Matching.{some_end_fits}
use Rattle.app_config.proofs.matching.some_end_fits.Given as goal

abbrev pub invariant-stars : goal.invariant-stars
invariant-stars l = some_end_fits l.pattern l.segment ≡ some_end_fits l.initial.pattern l.initial.segment

abbrev pub decreases-stars : goal.decreases-stars
decreases-stars l = length l.pattern
