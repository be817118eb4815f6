-- The order of a request's operations.
use Rattle.std.specs.Prelude.{◌≡◌, Option, Some, None}
use Rattle.by_need.specs.Asking.{Asking, Gives, Ask}
use Rattle.system_events.specs.declared.event.Cause.{Cause}
use Rattle.system_events.specs.declared.event.Cause.TheVariants.{Memory}
use Rattle.system_events.specs.declared.event.Want.TheVariants.{Unload}
use Rattle.request_actor.specs.Talks.{Talks}
use Rattle.request_actor.specs.declared.actor.After.{After}
use Rattle.request_actor.specs.declared.actor.After.TheVariants as after
use Rattle.request_actor.specs.declared.actor.Stage.{Stage}
use Rattle.request_actor.specs.declared.actor.Stage.TheVariants as stage
use Rattle.request_actor.specs.declared.op.Op.{Op}
use Rattle.request_actor.specs.declared.op.Op.TheVariants as op
use Rattle.request_actor.specs.declared.op.Answered.{Answered}
use Rattle.request_actor.specs.declared.op.Answered.TheVariants as answer

module _ {M T V P Q R F W : Type 0} where
  -- behind an unload section the request begins, or is refused
  abbrev pub GoesOn : After Q (Cause M T V P Q R F) → Op M T V P Q R F → Stage Q T W (Cause M T V P Q R F) → Type 0
  GoesOn (after.Begins q) asked new = (asked ≡ op.Begin) × (new ≡ stage.Begins q)
  GoesOn (after.Refuses cause) asked new = (asked ≡ op.Refuse cause) × (new ≡ stage.Refuses)

  -- a run comes to the request's reply, or to a look at a task
  abbrev pub Runs : (W → V → Asking T V R) → Asking T V R → Op M T V P Q R F → Stage Q T W (Cause M T V P Q R F) →
      Type 0
  Runs branch (Gives reply) asked new = (asked ≡ op.End reply) × (new ≡ stage.Ends)
  Runs branch (Ask task next) asked new = (asked ≡ op.Look task)
      × ((waiting : W) × ((new ≡ stage.Looks task waiting) × (branch waiting ≡ next)))

module _ {M T V P Q R F E : Type 0} where
  -- what comes behind the release after a reload
  abbrev pub after_reload : Q → Answered V E (Cause M T V P Q R F) → After Q (Cause M T V P Q R F)
  after_reload q (answer.Fault cause) = after.Refuses cause
  after_reload q _ = after.Begins q

module _ {M T V P Q R F W E : Type 0} where
  -- where the stamps are the same the request begins, where they differ an unload section comes first
  abbrev pub AfterCheck : Q → Answered V E (Cause M T V P Q R F) → Op M T V P Q R F →
      Stage Q T W (Cause M T V P Q R F) → Type 0
  AfterCheck q answer.Same asked new = (asked ≡ op.Begin) × (new ≡ stage.Begins q)
  AfterCheck q answer.Differs asked new = (asked ≡ op.Take Unload) × (new ≡ stage.Takes q)
  AfterCheck q (answer.Fault cause) asked new = (asked ≡ op.Refuse cause) × (new ≡ stage.Refuses)
  AfterCheck q _ asked new = ⊥

  -- a release that waits is resumed
  abbrev pub AfterRelease : After Q (Cause M T V P Q R F) → Answered V E (Cause M T V P Q R F) → Op M T V P Q R F →
      Stage Q T W (Cause M T V P Q R F) → Type 0
  AfterRelease next answer.Waits asked new = (asked ≡ op.Resume) × (new ≡ stage.Resumes next)
  AfterRelease next _ asked new = GoesOn next asked new

module _ {M T V P Q R F G W E : Type 0} (talks : Talks T V P Q R E G W) where
  -- a value is the answer to a question of the run, and a missing task is loaded
  abbrev pub AfterLook : T → W → Answered V E (Cause M T V P Q R F) → Op M T V P Q R F →
      Stage Q T W (Cause M T V P Q R F) → Type 0
  AfterLook task waiting (answer.Found value) asked new = Runs talks.branch (talks.branch waiting value) asked new
  AfterLook task waiting _ asked new = (asked ≡ op.Load task) × (new ≡ stage.Loads task waiting)

  -- after a load comes a look again; where it failed, the request ends with that error
  abbrev pub AfterLoad : T → W → Answered V E (Cause M T V P Q R F) → Op M T V P Q R F →
      Stage Q T W (Cause M T V P Q R F) → Type 0
  AfterLoad task waiting (answer.Failed error) asked new = (asked ≡ op.End (talks.failed error)) × (new ≡ stage.Ends)
  AfterLoad task waiting _ asked new = (asked ≡ op.Look task) × (new ≡ stage.Looks task waiting)

  -- What is asked for after an answer, and which answer is awaited then. The program is that of the request's Begin.
  abbrev pub Goes : P → Stage Q T W (Cause M T V P Q R F) → Answered V E (Cause M T V P Q R F) → Op M T V P Q R F →
      Stage Q T W (Cause M T V P Q R F) → Type 0
  Goes p (stage.Fresh q) answered asked new = (asked ≡ op.Share) × (new ≡ stage.Shares q)
  Goes p (stage.Shares q) answered asked new = (asked ≡ op.Check) × (new ≡ stage.Checks q)
  Goes p (stage.Checks q) answered asked new = AfterCheck q answered asked new
  Goes p (stage.Takes q) answered asked new = (asked ≡ op.Reload) × (new ≡ stage.Reloads q)
  Goes p (stage.Reloads q) answered asked new =
      (asked ≡ op.Release) × (new ≡ stage.Releases (after_reload q answered))
  Goes p (stage.Releases next) answered asked new = AfterRelease next answered asked new
  Goes p (stage.Resumes next) answered asked new = GoesOn next asked new
  Goes p (stage.Begins q) answered asked new = Runs talks.branch (talks.whole p q) asked new
  Goes p (stage.Looks task waiting) answered asked new = AfterLook task waiting answered asked new
  Goes p (stage.Loads task waiting) answered asked new = AfterLoad task waiting answered asked new
  Goes p stage.Ends answered asked new = (asked ≡ op.Unshare) × (new ≡ stage.Unshares)
  Goes p stage.Refuses answered asked new = (asked ≡ op.Unshare) × (new ≡ stage.Unshares)
  Goes p stage.Unshares answered asked new = (asked ≡ op.Finished) × (new ≡ stage.Over)
  Goes p stage.Over answered asked new = ⊥

-- the request that is to begin, at a stage before its Begin was answered
abbrev pub request_at_stage : {Q T W C : Type 0} → Stage Q T W C → Option Q
request_at_stage (stage.Fresh request) = Some request
request_at_stage (stage.Shares request) = Some request
request_at_stage (stage.Checks request) = Some request
request_at_stage (stage.Takes request) = Some request
request_at_stage (stage.Reloads request) = Some request
request_at_stage (stage.Begins request) = Some request
request_at_stage _ = None

module _ {M T V P Q R F : Type 0} where
  -- a fault of a check or of a reload is never want of memory
  abbrev pub IsFaultCause : Cause M T V P Q R F → Type 0
  IsFaultCause Memory = ⊥
  IsFaultCause _ = Unit {0}

module _ {M T V P Q R F E : Type 0} where
  -- what an actor that was asked for nothing yet is given
  abbrev pub FitsStart : Answered V E (Cause M T V P Q R F) → Type 0
  FitsStart answer.Start = Unit {0}
  FitsStart _ = ⊥

  -- the answer of what can only be done
  abbrev pub FitsDone : Answered V E (Cause M T V P Q R F) → Type 0
  FitsDone answer.Done = Unit {0}
  FitsDone _ = ⊥

  -- the answers of a check
  abbrev pub FitsCheck : Answered V E (Cause M T V P Q R F) → Type 0
  FitsCheck answer.Same = Unit {0}
  FitsCheck answer.Differs = Unit {0}
  FitsCheck (answer.Fault cause) = IsFaultCause cause
  FitsCheck _ = ⊥

  -- the answers of a reload
  abbrev pub FitsReload : Answered V E (Cause M T V P Q R F) → Type 0
  FitsReload answer.Done = Unit {0}
  FitsReload answer.Same = Unit {0}
  FitsReload (answer.Fault cause) = IsFaultCause cause
  FitsReload _ = ⊥

  -- the answers of a release
  abbrev pub FitsRelease : Answered V E (Cause M T V P Q R F) → Type 0
  FitsRelease answer.Done = Unit {0}
  FitsRelease answer.Waits = Unit {0}
  FitsRelease _ = ⊥

  -- the answers of a look
  abbrev pub FitsLook : Answered V E (Cause M T V P Q R F) → Type 0
  FitsLook (answer.Found value) = Unit {0}
  FitsLook answer.Missing = Unit {0}
  FitsLook _ = ⊥

  -- the answers of a load
  abbrev pub FitsLoad : Answered V E (Cause M T V P Q R F) → Type 0
  FitsLoad answer.Done = Unit {0}
  FitsLoad (answer.Failed error) = Unit {0}
  FitsLoad _ = ⊥

module _ {M T V P Q R F W E : Type 0} where
  -- The answers of what was asked for last. All but the start, and but those above, are answered by Done alone.
  abbrev pub Fits : Stage Q T W (Cause M T V P Q R F) → Answered V E (Cause M T V P Q R F) → Type 0
  Fits (stage.Fresh q) answered = FitsStart answered
  Fits (stage.Checks q) answered = FitsCheck answered
  Fits (stage.Reloads q) answered = FitsReload answered
  Fits (stage.Releases next) answered = FitsRelease answered
  Fits (stage.Looks task waiting) answered = FitsLook answered
  Fits (stage.Loads task waiting) answered = FitsLoad answered
  Fits stage.Over answered = ⊥
  Fits _ answered = FitsDone answered
