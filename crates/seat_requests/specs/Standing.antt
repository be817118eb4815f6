-- What holds of a seat whose request is open, before each of its steps.
use Rattle.std.specs.Prelude.{◌≡◌, ℕ, List, []}
use Rattle.system_events.specs.declared.event.Act.{Act}
use Rattle.system_events.specs.declared.event.Cause.{Cause}
use Rattle.system_events.specs.declared.event.Want.TheVariants.{Unload}
use Rattle.system_events.specs.declared.event.Kept.{Kept}
use Rattle.system_events.specs.Facts.{Facts}
use Rattle.system_events.specs.Guards.{guard_of}
use Rattle.system_events.specs.State.{State}
use Rattle.system_events.specs.Steps.{IsCause}
use Rattle.system_events.specs.Legal.{IsStep}
use Rattle.request_actor.specs.Talks.{Talks}
use Rattle.request_actor.specs.Answers.{Holds}
use Rattle.request_actor.specs.declared.actor.After.{After}
use Rattle.request_actor.specs.declared.actor.After.TheVariants as after
use Rattle.request_actor.specs.declared.actor.Stage.{Stage}
use Rattle.request_actor.specs.declared.actor.Stage.TheVariants as stage
use Rattle.request_actor.specs.declared.op.Op.{Op}
use Rattle.request_actor.specs.declared.op.Op.TheVariants as op
use Rattle.request_actor.specs.declared.op.Answered.{Answered}
use Rattle.request_actor.specs.declared.op.Answered.TheVariants as answer
use Rattle.request_laws.specs.Standing.{IsServed}
use Rattle.served_requests.specs.Serving.{IsAnswer}
use Rattle.seat_requests.specs.Trying.{verdict, IsRefused, IsLimited}
use Rattle.seat_requests.specs.declared.entering.Entered.{Entered}
use Rattle.seat_requests.specs.declared.entering.Entered.TheVariants.{Done, Waits, Full}

module _ {M T V P Q R F : Type 0} (f : Facts T V P Q R F) where
  -- What comes of an act that is tried. Done: its step. Waits: a guard refused it, and here it is. Full: that guard
  -- tells a limit. In both cases nothing changed.
  abbrev pub IsEntered : State M T V P Q R F → State M T V P Q R F → ℕ → Kept M T V P Q R F →
      Act M T V P Q R F → Entered M T V P Q R F → Type 0
  IsEntered old new seat kept act Done = IsStep f old (record { seat = seat; kept = kept }) new
  IsEntered old new seat kept act (Waits again) =
      (new ≡ old) × (again ≡ act) × (verdict (guard_of f old seat kept) ≡ IsRefused)
  IsEntered old new seat kept act Full = (new ≡ old) × (verdict (guard_of f old seat kept) ≡ IsLimited)

module _ {M T V P Q R F W : Type 0} where
  -- the operation whose answer is awaited
  abbrev pub IsAskedAt : Stage Q T W (Cause M T V P Q R F) → Op M T V P Q R F → Type 0
  IsAskedAt (stage.Fresh request) asked = ⊥
  IsAskedAt (stage.Shares request) asked = asked ≡ op.Share
  IsAskedAt (stage.Checks request) asked = asked ≡ op.Check
  IsAskedAt (stage.Takes request) asked = asked ≡ op.Take Unload
  IsAskedAt (stage.Reloads request) asked = asked ≡ op.Reload
  IsAskedAt (stage.Releases next) asked = asked ≡ op.Release
  IsAskedAt (stage.Resumes next) asked = asked ≡ op.Resume
  IsAskedAt (stage.Begins request) asked = asked ≡ op.Begin
  IsAskedAt (stage.Looks task waiting) asked = asked ≡ op.Look task
  IsAskedAt (stage.Loads task waiting) asked = asked ≡ op.Load task
  IsAskedAt stage.Ends asked = (reply : R) × (asked ≡ op.End reply)
  IsAskedAt stage.Refuses asked = (cause : Cause M T V P Q R F) × (asked ≡ op.Refuse cause)
  IsAskedAt stage.Unshares asked = asked ≡ op.Unshare
  IsAskedAt stage.Over asked = asked ≡ op.Finished

module _ {M T V P Q R F : Type 0} (f : Facts T V P Q R F) where
  -- behind an unload section a request begins that may, or is refused for a cause that may stand
  abbrev pub MayFollow : After Q (Cause M T V P Q R F) → Type 0
  MayFollow (after.Begins request) = f.IsRequest request
  MayFollow (after.Refuses cause) = IsCause f cause

module _ {M T V P Q R F G W E : Type 0} (f : Facts T V P Q R F) (talks : Talks T V P Q R E G W) where
  -- The seat's request is open at this stage, and was asked for this: before its Begin it is one that may begin; from
  -- its Begin to its End it is served, and what it was asked for holds.
  abbrev pub Stands : State M T V P Q R F → ℕ → Stage Q T W (Cause M T V P Q R F) → Op M T V P Q R F → Type 0
  Stands s k (stage.Fresh request) asked = f.IsRequest request
  Stands s k (stage.Shares request) asked = f.IsRequest request
  Stands s k (stage.Checks request) asked = f.IsRequest request
  Stands s k (stage.Takes request) asked = f.IsRequest request
  Stands s k (stage.Reloads request) asked = f.IsRequest request
  Stands s k (stage.Releases next) asked = MayFollow f next
  Stands s k (stage.Resumes next) asked = MayFollow f next
  Stands s k (stage.Begins request) asked = f.IsRequest request
  Stands s k (stage.Looks task waiting) asked = (q : Q) × ((found : List T)
      × (IsServed f talks s k q found (stage.Looks task waiting) × Holds f s.counts.program q found asked))
  Stands s k (stage.Loads task waiting) asked = (q : Q) × ((found : List T)
      × (IsServed f talks s k q found (stage.Loads task waiting) × Holds f s.counts.program q found asked))
  Stands s k stage.Ends asked = (q : Q) × ((found : List T)
      × (IsServed f talks s k q found stage.Ends × Holds f s.counts.program q found asked))
  Stands s k stage.Refuses asked = (cause : Cause M T V P Q R F) × ((asked ≡ op.Refuse cause) × IsCause f cause)
  Stands s k _ asked = Unit {0}

  -- the same, and the stage awaits the answer of this operation
  pub record IsStanding (s : State M T V P Q R F) (k : ℕ) (at : Stage Q T W (Cause M T V P Q R F))
      (asked : Op M T V P Q R F) : Type 0 where
    pub asks : IsAskedAt at asked
    pub stands : Stands s k at asked

module _ {M T V P Q R F E : Type 0} (f : Facts T V P Q R F) where
  -- a fault is for a cause that may stand
  abbrev pub IsCauseOf : Answered V E (Cause M T V P Q R F) → Type 0
  IsCauseOf (answer.Fault cause) = IsCause f cause
  IsCauseOf _ = Unit {0}

module _ {M T V P Q R F G W E : Type 0} (f : Facts T V P Q R F) (talks : Talks T V P Q R E G W) where
  -- The seat's request at this stage is ready for this answer, in the state that the answer comes from: what it is to
  -- begin may begin; behind its Begin it is served, and the system gave the answer.
  abbrev pub IsReady : State M T V P Q R F → ℕ → Stage Q T W (Cause M T V P Q R F) →
      Answered V E (Cause M T V P Q R F) → Type 0
  IsReady s k (stage.Fresh request) answered = f.IsRequest request
  IsReady s k (stage.Shares request) answered = f.IsRequest request
  IsReady s k (stage.Checks request) answered = f.IsRequest request × IsCauseOf f answered
  IsReady s k (stage.Takes request) answered = f.IsRequest request
  IsReady s k (stage.Reloads request) answered = f.IsRequest request × IsCauseOf f answered
  IsReady s k (stage.Releases next) answered = MayFollow f next
  IsReady s k (stage.Resumes next) answered = MayFollow f next
  IsReady s k (stage.Begins request) answered = (q : Q)
      × IsServed f talks s k q [] (stage.Begins request)
  IsReady s k (stage.Looks task waiting) answered = (q : Q) × ((found : List T)
      × (IsServed f talks s k q found (stage.Looks task waiting)
      × IsAnswer f talks s (stage.Looks task waiting) answered))
  IsReady s k (stage.Loads task waiting) answered = (q : Q) × ((found : List T)
      × (IsServed f talks s k q found (stage.Loads task waiting)
      × IsAnswer f talks s (stage.Loads task waiting) answered))
  IsReady s k _ answered = Unit {0}
