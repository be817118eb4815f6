use Rattle.std.proofs.Common.{◌≡◌, length}
use Rattle.app_config.specs.Loops.Matching.{behind_first}
use Rattle.app_config.proofs.matching.behind_first.Given as goal

abbrev pub invariant-places : goal.invariant-places
invariant-places l = behind_first l.piece l.rest ≡ behind_first l.piece l.text

abbrev pub decreases-places : goal.decreases-places
decreases-places l = length l.rest
