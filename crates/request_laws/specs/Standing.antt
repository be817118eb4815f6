-- What a request that runs rests on.
use Rattle.std.specs.Prelude.{◌≡◌, ℕ, true, List, Some, Contains}
use Rattle.system_events.specs.declared.event.Cause.{Cause}
use Rattle.system_events.specs.declared.event.Entry.{Entry}
use Rattle.system_events.specs.declared.event.Kept.{Kept}
use Rattle.system_events.specs.declared.event.Kept.TheVariants.{End, Refuse}
use Rattle.system_events.specs.Facts.{Facts}
use Rattle.system_events.specs.State.{State, is_in, running_request}
use Rattle.request_actor.specs.Talks.{Talks}
use Rattle.request_actor.specs.Answers.{IsOnWay}
use Rattle.request_actor.specs.declared.actor.Stage.{Stage}

module _ {M T V P Q R F : Type 0} where
  -- the entry ends no request
  abbrev pub IsNoEnd : Kept M T V P Q R F → Type 0
  IsNoEnd (End reply) = ⊥
  IsNoEnd (Refuse cause) = ⊥
  IsNoEnd _ = Unit {0}

  -- the entry doesn't end the request of seat k
  abbrev pub LeavesRequest : ℕ → Entry M T V P Q R F → Type 0
  LeavesRequest k entry = entry.seat ≡ k → IsNoEnd entry.kept

module _ {M T V P Q R F : Type 0} (f : Facts T V P Q R F) where
  -- From one state to another the seat goes on running its request, on the same program, and no task left the table.
  pub record GoesOn (old new : State M T V P Q R F) (k : ℕ) (q : Q) : Type 0 where
    pub request : running_request new k ≡ Some q
    pub program : new.counts.program ≡ old.counts.program
    pub table : (task : T) → is_in f task old.table ≡ true → is_in f task new.table ≡ true

  -- each of these tasks is in the table
  abbrev pub AreIn : List T → State M T V P Q R F → Type 0
  AreIn tasks s = (task : T) → Contains tasks task → is_in f task s.table ≡ true

module _ {M T V P Q R F G W E : Type 0} (f : Facts T V P Q R F) (talks : Talks T V P Q R E G W) where
  -- The seat runs the request, which may begin, and it is on its way on the program in force, having found these tasks,
  -- which are in the table.
  pub record IsServed (s : State M T V P Q R F) (k : ℕ) (q : Q) (found : List T)
      (stage : Stage Q T W (Cause M T V P Q R F)) : Type 0 where
    pub runs : running_request s k ≡ Some q
    pub begins : f.IsRequest q
    pub way : IsOnWay f talks s.counts.program q found stage
    pub there : AreIn f found s
