use Rattle.std.proofs.Common.{◌≡◌}
use Rattle.std.specs.List.{list_all}
use Rattle.app_config.specs.Loops.Left.{parts_left, size_left}
use Rattle.app_config.specs.Paths.{is_plain, are_plain}
use Rattle.app_config.proofs.paths.are_plain.Given as goal

abbrev pub invariant-segments : goal.invariant-segments
invariant-segments l = list_all is_plain (parts_left 47 l.rest) ≡ are_plain l.path

abbrev pub decreases-segments : goal.decreases-segments
decreases-segments l = size_left l.rest
