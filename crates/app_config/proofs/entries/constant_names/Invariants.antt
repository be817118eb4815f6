use Rattle.std.proofs.Common.{◌≡◌, ◌++◌, length}
use Rattle.app_config.specs.Text.{split}
use Rattle.app_config.specs.Paths.{every_second, constant_names}
use Rattle.app_config.proofs.entries.constant_names.Given as goal

abbrev pub invariant-names : goal.invariant-names
invariant-names l = l.names ++ every_second (split 58 l.rest) ≡ constant_names l.word

abbrev pub decreases-names : goal.decreases-names
decreases-names l = length l.rest
