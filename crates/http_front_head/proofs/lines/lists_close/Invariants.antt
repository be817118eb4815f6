use Rattle.std.proofs.Common.{◌≡◌, length}
use Rattle.http_front_head.specs.Parts.{lists_close}
use Rattle.http_front_head.proofs.lines.lists_close.Given as goal

abbrev pub invariant-members : goal.invariant-members
invariant-members l = lists_close l.value ≡ lists_close l.list

abbrev pub decreases-members : goal.decreases-members
decreases-members l = length l.list
