-- What holds behind a step at an operation.
use Rattle.std.specs.Prelude.{◌≡◌, ◌⊎◌, ℕ}
use Rattle.system_events.specs.declared.event.Cause.{Cause}
use Rattle.system_events.specs.declared.event.Kept.{Kept}
use Rattle.system_events.specs.Facts.{Facts}
use Rattle.system_events.specs.State.{State}
use Rattle.request_actor.specs.Talks.{Talks}
use Rattle.request_actor.specs.Order.{Fits}
use Rattle.request_actor.specs.declared.actor.Stage.{Stage}
use Rattle.request_actor.specs.declared.op.Op.{Op}
use Rattle.request_actor.specs.declared.op.Op.TheVariants as op
use Rattle.request_actor.specs.declared.op.Answered.{Answered}
use Rattle.seat_requests.specs.Standing.{IsReady, IsStanding}
use Rattle.seat_operations.specs.Coming.{Enters}
use Rattle.seat_operations.specs.declared.came.Came.{Came}
use Rattle.seat_operations.specs.declared.came.Came.TheVariants.{Answered as Is-Answered, Sought, Waits, Limit}

module _ {M T V P Q R F : Type 0} where
  -- the operation takes one step, unless it waits: it is no load, and not the end
  abbrev pub IsOneStep : Op M T V P Q R F → Type 0
  IsOneStep (op.Load task) = ⊥
  IsOneStep op.Finished = ⊥
  IsOneStep _ = Unit {0}

module _ {M T V P Q R F : Type 0} (f : Facts T V P Q R F) where
  -- nothing changed, or seat k made an entry
  abbrev pub IsMoved : State M T V P Q R F → State M T V P Q R F → ℕ → Type 0
  IsMoved old new k = (new ≡ old) ⊎ ((entry : Kept M T V P Q R F) × Enters f old new k entry)

module _ {M T V P Q R F G W E : Type 0} (f : Facts T V P Q R F) (talks : Talks T V P Q R E G W) where
  -- Behind a step of seat k the request at this stage is ready for the answer, or it stands still at the operation.
  abbrev pub GoesOn : State M T V P Q R F → ℕ → Stage Q T W (Cause M T V P Q R F) →
      Came (Op M T V P Q R F) (Answered V E (Cause M T V P Q R F)) → Type 0
  GoesOn new k at (Is-Answered line answered) = IsReady f talks new k at answered × Fits at answered
  GoesOn new k at (Sought line again) = IsStanding f talks new k at again × IsOneStep again
  GoesOn new k at (Waits line again) = IsStanding f talks new k at again × IsOneStep again
  GoesOn new k at Limit = Unit {0}
