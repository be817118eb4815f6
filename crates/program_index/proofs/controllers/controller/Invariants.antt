use Rattle.std.proofs.Common.{◌≡◌, ◌++◌, length}
use Rattle.program_index.specs.Controllers.{controller_of}
use Rattle.program_index.proofs.controllers.controller.Given as goal

abbrev pub invariant-segments : goal.invariant-segments
invariant-segments l = l.names.items ++ controller_of l.config l.left ≡ controller_of l.config l.segments

abbrev pub decreases-segments : goal.decreases-segments
decreases-segments l = length l.left
