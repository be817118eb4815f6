use Rattle.std.proofs.Common.{◌≡◌, length}
use Rattle.program_used.specs.Constants.{put_rows}
use Rattle.program_used.proofs.constants.put_rows.Given as goal

abbrev pub invariant-rows : goal.invariant-rows
invariant-rows l = put_rows l.constants.items l.left ≡ put_rows l.fn.constants.items l.rows

abbrev pub decreases-rows : goal.decreases-rows
decreases-rows l = length l.left
