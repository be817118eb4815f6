-- How many steps of an open request may follow one another that enter nothing.
use Rattle.std.specs.Prelude.{◌≡◌, ◌<◌, ◌⊎◌, ℕ, Option, length}
use Rattle.by_need.specs.Asking.{Asking, Ask}
use Rattle.system_events.specs.declared.event.Cause.{Cause}
use Rattle.system_events.specs.Facts.{Facts}
use Rattle.system_events.specs.State.{State}
use Rattle.request_actor.specs.Talks.{Talks, asked_over}
use Rattle.request_actor.specs.declared.actor.Stage.{Stage}
use Rattle.request_actor.specs.declared.actor.Stage.TheVariants.{Checks, Reloads, Looks}
use Rattle.request_actor.specs.declared.op.Op.{Op}
use Rattle.seat_steps.specs.declared.next.Next.{Next}
use Rattle.seat_steps.specs.declared.next.Next.TheVariants.{Does}
use Rattle.seat_steps.specs.declared.next.OpenRequest.{OpenRequest}

module _ {M T V P Q R F W : Type 0} (known : T → Option V) (branch : W → V → Asking T V R) where
  -- A check or a reload enters nothing, and an entry follows. Looks may follow one another as long as the run asks for
  -- tasks that are known.
  abbrev pub quiet_at : Stage Q T W (Cause M T V P Q R F) → ℕ
  quiet_at (Checks request) = 1
  quiet_at (Reloads request) = 1
  quiet_at (Looks task waiting) = length (asked_over known (Ask task (branch waiting)))
  quiet_at _ = 0

  -- the same by what the request does next: of the steps in a load section each enters something
  abbrev pub quiet_next : {L E : Type 0} → Stage Q T W (Cause M T V P Q R F) → Next (Op M T V P Q R F) T L E → ℕ
  quiet_next at (Does asked) = quiet_at at
  quiet_next at _ = 0

  -- the same of an open request
  abbrev pub quiet : {L E : Type 0} →
      OpenRequest (Stage Q T W (Cause M T V P Q R F)) (Next (Op M T V P Q R F) T L E) → ℕ
  quiet request = quiet_next request.actor request.next

module _ {M T V P Q R F G W L E : Type 0} (f : Facts T V P Q R F) (talks : Talks T V P Q R E G W) where
  -- how many steps of an open request may follow one another that enter nothing, on the program in force
  abbrev pub quiet_in : State M T V P Q R F →
      OpenRequest (Stage Q T W (Cause M T V P Q R F)) (Next (Op M T V P Q R F) T L E) → ℕ
  quiet_in s request = quiet (f.known s.counts.program) talks.branch request

  -- From one state to the other an entry was made; or nothing changed, and fewer such steps may follow.
  abbrev pub Progresses : State M T V P Q R F → State M T V P Q R F →
      OpenRequest (Stage Q T W (Cause M T V P Q R F)) (Next (Op M T V P Q R F) T L E) →
      OpenRequest (Stage Q T W (Cause M T V P Q R F)) (Next (Op M T V P Q R F) T L E) → Type 0
  Progresses old new request next =
      (length old.history < length new.history) ⊎ ((new ≡ old) × (quiet_in new next < quiet_in old request))
