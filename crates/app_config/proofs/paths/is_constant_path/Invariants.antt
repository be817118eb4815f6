use Rattle.std.proofs.Common.{◌≡◌, length}
use Rattle.app_config.specs.Paths.{is_constant_path}
use Rattle.app_config.proofs.paths.is_constant_path.Given as goal

abbrev pub invariant-names : goal.invariant-names
invariant-names l = is_constant_path l.rest ≡ is_constant_path l.word

abbrev pub decreases-names : goal.decreases-names
decreases-names l = length l.rest
