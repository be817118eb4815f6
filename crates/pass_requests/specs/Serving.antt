-- A request that a pass runs, between what it asks for and what it is answered.
use Rattle.std.specs.Prelude.{◌≡◌, ◌⊎◌, ℕ, List, [], Some, None}
use Rattle.system_events.specs.declared.event.Cause.{Cause}
use Rattle.system_events.specs.declared.event.Entry.{Entry}
use Rattle.system_events.specs.declared.event.Kept.{Kept}
use Rattle.system_events.specs.Facts.{Facts}
use Rattle.system_events.specs.State.{State}
use Rattle.system_events.specs.Legal.{after}
use Rattle.system_core.specs.Tables.{lookup}
use Rattle.request_actor.specs.Talks.{Talks}
use Rattle.request_actor.specs.Order.{Fits}
use Rattle.request_actor.specs.Answers.{Holds}
use Rattle.request_actor.specs.declared.actor.Stage.{Stage}
use Rattle.request_actor.specs.declared.actor.Stage.TheVariants as stage
use Rattle.request_actor.specs.declared.op.Op.{Op}
use Rattle.request_actor.specs.declared.op.Op.TheVariants as op
use Rattle.request_actor.specs.declared.op.Answered.{Answered}
use Rattle.request_actor.specs.declared.op.Answered.TheVariants as answer
use Rattle.request_laws.specs.Conduct.{AreLoads, IsLoad}
use Rattle.request_laws.specs.Standing.{IsServed}
use Rattle.served_requests.specs.Serving.{IsAnswer}
use Rattle.shop_base.specs.Passes.{seat_limit, Gains}

module _ {M T V P Q R F W : Type 0} where
  -- a request that has begun waits for an answer here
  abbrev pub IsServing : Stage Q T W (Cause M T V P Q R F) → Type 0
  IsServing (stage.Begins request) = Unit {0}
  IsServing (stage.Looks task waiting) = Unit {0}
  IsServing (stage.Loads task waiting) = Unit {0}
  IsServing _ = ⊥

  -- what a request that has begun asks for at each stage
  abbrev pub AsksAt : Stage Q T W (Cause M T V P Q R F) → Op M T V P Q R F → Type 0
  AsksAt (stage.Looks task waiting) asked = asked ≡ op.Look task
  AsksAt (stage.Loads task waiting) asked = asked ≡ op.Load task
  AsksAt stage.Ends asked = (reply : R) × (asked ≡ op.End reply)
  AsksAt _ asked = ⊥

module _ {M T V P Q R F E : Type 0} (f : Facts T V P Q R F) where
  -- a look at a task is answered by the table
  abbrev pub AnswersLook : State M T V P Q R F → T → Answered V E (Cause M T V P Q R F) → Type 0
  AnswersLook s task (answer.Found value) = lookup f task s.table ≡ Some value
  AnswersLook s task answer.Missing = Unit {0}
  AnswersLook s task _ = ⊥

module _ {M T V P Q R F G W E : Type 0} (f : Facts T V P Q R F) (talks : Talks T V P Q R E G W) where
  -- a load fails where its task isn't known of the program in force, by its blame
  abbrev pub HasFailed : State M T V P Q R F → T → E → Type 0
  HasFailed s task error = (f.known s.counts.program task ≡ None) × (error ≡ talks.blame s.counts.program task)

  -- a load of a task is done, or fails
  abbrev pub AnswersLoad : State M T V P Q R F → T → Answered V E (Cause M T V P Q R F) → Type 0
  AnswersLoad s task (answer.Failed error) = HasFailed s task error
  AnswersLoad s task answer.Done = Unit {0}
  AnswersLoad s task _ = ⊥

  -- Seat k runs the request, which is at this stage, and this is its answer.
  pub record IsAnswered (s : State M T V P Q R F) (k : ℕ) (q : Q) (at : Stage Q T W (Cause M T V P Q R F))
      (answered : Answered V E (Cause M T V P Q R F)) : Type 0 where
    pub found : List T
    pub served : IsServed f talks s k q found at
    pub answers : IsAnswer f talks s at answered
    pub fits : Fits at answered
    pub serving : IsServing at

  -- Seat k runs the request, which asks for this.
  pub record IsAsked (s : State M T V P Q R F) (k : ℕ) (q : Q) (at : Stage Q T W (Cause M T V P Q R F))
      (asked : Op M T V P Q R F) : Type 0 where
    pub found : List T
    pub served : IsServed f talks s k q found at
    pub holds : Holds f s.counts.program q found asked
    pub asks : AsksAt at asked

module _ {M T V P Q R F : Type 0} (f : Facts T V P Q R F) where
  -- From one history to another seat k has run the request on this program: its own acts are load sections, each of a
  -- task that the request asks for.
  pub record HasLoaded (k : ℕ) (q : Q) (program : P) (before now : List (Entry M T V P Q R F)) : Type 0 where
    pub same : (after f seat_limit now).counts.program ≡ program
    pub acts : List (Kept M T V P Q R F)
    pub gains : Gains k acts before now
    pub loads : AreLoads (f.request_asked program q) acts

-- a load makes no entries where the table has the task, else it is a section
abbrev pub MayLoad : {M T V P Q R F : Type 0} → T → List (Kept M T V P Q R F) → Type 0
MayLoad task acts = (acts ≡ []) ⊎ IsLoad task acts
