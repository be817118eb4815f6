-- A step at an operation is one entry of its seat, or none.
use Rattle.std.proofs.Common.{ℕ, List, inl, inr}
use Rattle.outside.specs.declared.files.FileEntry.{FileEntry}
use Rattle.system_events.specs.declared.event.Cause.{Cause}
use Rattle.system_events.specs.declared.event.Want.{Want}
use Rattle.system_events.specs.declared.event.Kept.{Kept}
use Rattle.system_events.specs.declared.event.Kept.TheVariants as kept
use Rattle.system_events.specs.Facts.{Facts}
use Rattle.system_events.specs.State.{State}
use Rattle.request_actor.specs.declared.actor.Stage.{Stage}
use Rattle.request_actor.specs.declared.op.Op.{Op}
use Rattle.request_actor.specs.declared.op.Op.TheVariants as op
use Rattle.request_actor.specs.declared.op.Answered.{Answered}
use Rattle.request_actor.specs.declared.op.Answered.TheVariants as answer
use Rattle.replay_matter.specs.Words.{Words}
use Rattle.reload_matter.specs.Sources.{Sources}
use Rattle.seat_operations.specs.Coming.{Acts, Takes, TakesWant, Reloaded, Reloads, Releases, Does}
use Rattle.seat_operations.specs.Readying.{IsMoved}
use Rattle.seat_operations.specs.declared.came.Came.{Came}
use Rattle.seat_operations.specs.declared.came.Came.TheVariants.{Answered as Is-Answered, Sought, Waits, Limit}
use Rattle.seat_operations.specs.declared.came.Taking.{Taking}
use Rattle.seat_operations.specs.declared.came.Taking.TheVariants as taking

module _ {M T V P Q R F : Type 0} (f : Facts T V P Q R F) (old new : State M T V P Q R F) (k : ℕ) where
  -- a step that is to make a seat exclusive is one entry, or none
  pub take_moves : {C : Type 0} (words : Words T P Q R C) (want : Want M T V P Q R F) (taken : Taking) →
      Takes f words old new k want taken → IsMoved f old new k
  take_moves words want (taking.Taken line) takes = inr (kept.Take want, takes.0)
  take_moves words want (taking.Sought line) takes = inr (kept.Seek want, takes.1)
  take_moves words want (taking.Waits line) takes = inl takes.0.same
  take_moves words want taking.Full takes = inl takes.same

module _ {M T V P Q R F E : Type 0} (f : Facts T V P Q R F) (old new : State M T V P Q R F) (k : ℕ) where
  acts_moves : (entry : Kept M T V P Q R F) (text : List ℕ) (asked : Op M T V P Q R F)
      (came : Came (Op M T V P Q R F) (Answered V E (Cause M T V P Q R F))) →
      Acts f old new k entry text asked came → IsMoved f old new k
  acts_moves entry text asked (Is-Answered line a) acts = inr (entry, acts.0)
  acts_moves entry text asked (Sought line again) acts = absurd acts
  acts_moves entry text asked (Waits line again) acts = inl acts.0.same
  acts_moves entry text asked Limit acts = inl acts.same

  want_moves : (words : Words T P Q R (Cause M T V P Q R F)) (want : Want M T V P Q R F)
      (came : Came (Op M T V P Q R F) (Answered V E (Cause M T V P Q R F))) → TakesWant f words old new k want came →
      IsMoved f old new k
  want_moves words want (Is-Answered line a) takes = take_moves f old new k words want (taking.Taken line) takes.0
  want_moves words want (Sought line again) takes = take_moves f old new k words want (taking.Sought line) takes.0
  want_moves words want (Waits line again) takes = take_moves f old new k words want (taking.Waits line) takes.0
  want_moves words want Limit takes = take_moves f old new k words want taking.Full takes

  reload_moves : (sources : Sources P F) (files : List FileEntry) (line : List ℕ)
      (a : Answered V E (Cause M T V P Q R F)) → Reloaded f sources old new files k line a → IsMoved f old new k
  reload_moves sources files line answer.Done reloaded = inr (kept.Reload reloaded.0, reloaded.1.1)
  reload_moves sources files line answer.Same reloaded = inl reloaded.1.1
  reload_moves sources files line (answer.Fault cause) reloaded = inl reloaded.1.1
  reload_moves sources files line answer.Start reloaded = absurd reloaded
  reload_moves sources files line answer.Differs reloaded = absurd reloaded
  reload_moves sources files line answer.Waits reloaded = absurd reloaded
  reload_moves sources files line (answer.Found value) reloaded = absurd reloaded
  reload_moves sources files line answer.Missing reloaded = absurd reloaded
  reload_moves sources files line (answer.Failed error) reloaded = absurd reloaded

  reloads_move : (sources : Sources P F) (files : List FileEntry)
      (came : Came (Op M T V P Q R F) (Answered V E (Cause M T V P Q R F))) → Reloads f sources old new files k came →
      IsMoved f old new k
  reloads_move sources files (Is-Answered line a) reloads = reload_moves sources files line a reloads
  reloads_move sources files (Sought line again) reloads = absurd reloads
  reloads_move sources files (Waits line again) reloads = absurd reloads
  reloads_move sources files Limit reloads = inl reloads.1.1.same

  -- a step that ends a section is one entry, or none
  pub release_moves : (came : Came (Op M T V P Q R F) (Answered V E (Cause M T V P Q R F))) →
      Releases f old new k came → IsMoved f old new k
  release_moves (Is-Answered line a) releases = inr (kept.Release, releases.0)
  release_moves (Sought line again) releases = absurd releases
  release_moves (Waits line again) releases = inl releases.0.same
  release_moves Limit releases = inl releases.same

module _ {M T V P Q R F W E : Type 0} (f : Facts T V P Q R F) (words : Words T P Q R (Cause M T V P Q R F))
    (sources : Sources P F) (old new : State M T V P Q R F) (files : List FileEntry) (k : ℕ)
    (at : Stage Q T W (Cause M T V P Q R F)) where
  -- a step at an operation is one entry of its seat, or none
  pub does_moves : (asked : Op M T V P Q R F) (came : Came (Op M T V P Q R F) (Answered V E (Cause M T V P Q R F))) →
      Does f words sources old new files k at asked came → IsMoved f old new k
  does_moves op.Share came does = acts_moves f old new k kept.Share _ op.Share came does
  does_moves op.Check came does = inl does.0
  does_moves (op.Take want) came does = want_moves f old new k words want came does
  does_moves op.Reload came does = reloads_move f old new k sources files came does
  does_moves op.Release came does = release_moves f old new k came does
  does_moves op.Resume came does = acts_moves f old new k kept.Resume _ op.Resume came does
  does_moves op.Begin came does = acts_moves f old new k (kept.Begin does.0) _ op.Begin came does.1.1
  does_moves (op.Look task) came does = inl does.0
  does_moves (op.Load task) came does = absurd does
  does_moves (op.End reply) came does = acts_moves f old new k (kept.End reply) _ (op.End reply) came does
  does_moves (op.Refuse cause) came does = acts_moves f old new k (kept.Refuse cause) _ (op.Refuse cause) came does
  does_moves op.Unshare came does = acts_moves f old new k kept.Unshare _ op.Unshare came does
  does_moves op.Finished came does = absurd does
