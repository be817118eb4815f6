use Rattle.std.proofs.Common.{◌≤◌, length, drop}
use Rattle.app_config.specs.Inflections.{LacksBase}
use Rattle.app_config.proofs.config.Config.inflection.Given as goal

abbrev pub invariant-pairs : goal.invariant-pairs
invariant-pairs l = record { within : l.left ≤ length l.pairs; later : LacksBase (drop l.left l.pairs) l.base }

abbrev pub decreases-pairs : goal.decreases-pairs
decreases-pairs l = l.left
