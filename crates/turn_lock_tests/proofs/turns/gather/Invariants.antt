use Rattle.std.proofs.Common.{◌≡◌, All}
use Rattle.turn_lock.specs.Entries.{Begins}
use Rattle.turn_lock_tests.specs.Ready.{IsReady}
use Rattle.turn_lock_tests.proofs.Joins.{IsGathered}
use Rattle.turn_lock_tests.proofs.turns.gather.Given as goal

abbrev pub invariant-loop-other : goal.invariant-loop-other
invariant-loop-other l =
    record {
      ready : IsReady l.lock l.first;
      same : l.first.number ≡ l.initial.first.number;
      others : All (IsReady l.lock) l.others.items;
      mine : Begins l.initial.first.seen l.first.seen;
      gathered : IsGathered l.initial.others.items l.others.items l.first.seen;
    }

abbrev pub decreases-loop-other : goal.decreases-loop-other
decreases-loop-other l = goal.left-loop-other l
