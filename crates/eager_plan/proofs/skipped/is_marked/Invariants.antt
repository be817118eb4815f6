use Rattle.std.proofs.Common.{◌<◌, ◌≤◌, length}
use Rattle.eager_plan.proofs.MarkLaws.{IsUnmarked}
use Rattle.eager_plan.proofs.skipped.is_marked.Given as goal

abbrev pub invariant-places : goal.invariant-places
invariant-places l = record {
  within : l.end ≤ length l.path;
  behind : length l.root < l.end;
  unmarked : IsUnmarked l.patterns l.root l.path l.end;
}

abbrev pub decreases-places : goal.decreases-places
decreases-places l = l.end
