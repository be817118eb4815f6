-- What holds of a seat whose request is open, between its steps.
use Rattle.std.specs.Prelude.{◌≡◌, ℕ, true, List, Option, Some, None}
use Rattle.by_need_loader.specs.Progress.{Progress}
use Rattle.system_events.specs.declared.event.Cause.{Cause}
use Rattle.system_events.specs.Facts.{Facts}
use Rattle.system_events.specs.State.{State, is_in}
use Rattle.load_sections.specs.Sections.{IsLoading}
use Rattle.request_actor.specs.Talks.{Talks}
use Rattle.request_actor.specs.declared.actor.Stage.{Stage}
use Rattle.request_actor.specs.declared.op.Op.{Op}
use Rattle.request_actor.specs.declared.op.Op.TheVariants as op
use Rattle.seat_requests.specs.Standing.{IsStanding}
use Rattle.seat_operations.specs.Readying.{IsOneStep}
use Rattle.seat_steps.specs.Theories.{Theories}
use Rattle.seat_steps.specs.declared.next.Next.{Next}
use Rattle.seat_steps.specs.declared.next.Next.TheVariants.{Does, Opens, Defines, Resumes}
use Rattle.seat_steps.specs.declared.next.OpenRequest.{OpenRequest}
use Rattle.seat_steps.specs.declared.next.Stepped.{Stepped}
use Rattle.seat_steps.specs.declared.next.Stepped.TheVariants.{Went, Waits, Limit}

module _ {M T V P Q R F G W E : Type 0} (f : Facts T V P Q R F) (talks : Talks T V P Q R E G W) where
  -- a load of the task is done: the table has it; or it failed: the task isn't known, for this reason
  abbrev pub HasEnded : State M T V P Q R F → T → Option E → Type 0
  HasEnded s task None = is_in f task s.table ≡ true
  HasEnded s task (Some error) =
      (f.known s.counts.program task ≡ None) × (error ≡ talks.blame s.counts.program task)

module _ {M T V P Q R F G W E X O H U N : Type 0} (f : Facts T V P Q R F) (talks : Talks T V P Q R E G W)
    (theories : Theories T V P X O H U N) where
  -- The request of seat k stands at what it does next. In its load section its loader goes on rightly, and behind it
  -- the load has ended so.
  abbrev pub GoesOnAt : State M T V P Q R F → ℕ → Stage Q T W (Cause M T V P Q R F) →
      Next (Op M T V P Q R F) T (Progress T H U N) E → Type 0
  GoesOnAt s k at (Does asked) = IsStanding f talks s k at asked × IsOneStep asked
  GoesOnAt s k at (Opens task) = IsStanding f talks s k at (op.Load task)
  GoesOnAt s k at (Defines progress) = (task : T) × (IsStanding f talks s k at (op.Load task)
      × ((at_first : T → Option V) × ((made : List (T × V))
      × IsLoading f (theories.rules s.counts.program) (theories.runs s.counts.program) task at_first s k made
      progress)))
  GoesOnAt s k at (Resumes ended) = (task : T) × (IsStanding f talks s k at (op.Load task)
      × HasEnded f talks s task ended)

  -- the same of an open request
  abbrev pub IsOpen : State M T V P Q R F → ℕ →
      OpenRequest (Stage Q T W (Cause M T V P Q R F)) (Next (Op M T V P Q R F) T (Progress T H U N) E) → Type 0
  IsOpen s k request = GoesOnAt s k request.actor request.next

  -- the same of a request that may be over
  abbrev pub MayBeOpen : State M T V P Q R F → ℕ →
      Option (OpenRequest (Stage Q T W (Cause M T V P Q R F)) (Next (Op M T V P Q R F) T (Progress T H U N) E)) →
      Type 0
  MayBeOpen s k None = Unit {0}
  MayBeOpen s k (Some request) = IsOpen s k request

  -- and behind a step
  abbrev pub StaysOpen : State M T V P Q R F → ℕ →
      Stepped (OpenRequest (Stage Q T W (Cause M T V P Q R F)) (Next (Op M T V P Q R F) T (Progress T H U N) E)) →
      Type 0
  StaysOpen s k (Went lines request) = MayBeOpen s k request
  StaysOpen s k (Waits line request) = IsOpen s k request
  StaysOpen s k Limit = Unit {0}
