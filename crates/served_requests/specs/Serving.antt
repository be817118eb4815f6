-- What a system answers a request that it serves.
use Rattle.std.specs.Prelude.{◌≡◌, Some, None}
use Rattle.system_events.specs.declared.event.Cause.{Cause}
use Rattle.system_events.specs.Facts.{Facts}
use Rattle.system_events.specs.State.{State}
use Rattle.system_core.specs.Tables.{lookup}
use Rattle.request_actor.specs.Talks.{Talks}
use Rattle.request_actor.specs.declared.actor.Stage.{Stage}
use Rattle.request_actor.specs.declared.actor.Stage.TheVariants.{Looks, Loads}
use Rattle.request_actor.specs.declared.op.Answered.{Answered}
use Rattle.request_actor.specs.declared.op.Answered.TheVariants.{Found, Failed}

module _ {M T V P Q R F G W E : Type 0} (f : Facts T V P Q R F) (talks : Talks T V P Q R E G W) where
  -- A look is answered by the table. A load fails where its task isn't known of the program in force, by its blame.
  -- Other answers say nothing of tasks.
  abbrev pub IsAnswer : State M T V P Q R F → Stage Q T W (Cause M T V P Q R F) →
      Answered V E (Cause M T V P Q R F) → Type 0
  IsAnswer s (Looks task waiting) (Found value) = lookup f task s.table ≡ Some value
  IsAnswer s (Loads task waiting) (Failed error) =
      (f.known s.counts.program task ≡ None) × (error ≡ talks.blame s.counts.program task)
  IsAnswer s _ answered = Unit {0}
