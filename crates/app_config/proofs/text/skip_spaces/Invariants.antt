use Rattle.std.proofs.Common.{◌≡◌, length}
use Rattle.app_config.specs.Text.{behind_spaces}
use Rattle.app_config.proofs.text.skip_spaces.Given as goal

abbrev pub invariant-spaces : goal.invariant-spaces
invariant-spaces l = behind_spaces l.rest ≡ behind_spaces l.text

abbrev pub decreases-spaces : goal.decreases-spaces
decreases-spaces l = length l.rest
