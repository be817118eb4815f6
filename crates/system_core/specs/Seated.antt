-- The guards of each event that look at the seats alone: of a want that isn't in the table and is the section's.
use Rattle.std.specs.Prelude.{ℕ, true, false, Option, None}
use Rattle.system_seats.specs.declared.guard.Guard.{Guard}
use Rattle.system_seats.specs.Seats.{Seats}
use Rattle.system_seats.specs.Guards.{share_guard, unshare_guard, yield_guard, retake_guard, seek_guard, take_guard}
use Rattle.system_seats.specs.Guards.{release_guard, resume_guard, begin_guard, end_guard}
use Rattle.system_events.specs.declared.event.Cause.TheVariants.{Memory}
use Rattle.system_events.specs.declared.event.Kept.{Kept}
use Rattle.system_events.specs.declared.event.Kept.TheVariants.{Share, Unshare, Yield, Retake, Seek, Take, Release}
use Rattle.system_events.specs.declared.event.Kept.TheVariants.{Resume, Begin, End, Refuse}
use Rattle.system_events.specs.State.{purpose_of}

module _ {M T V P Q R F : Type 0} where
  -- the first guard that looks at the seats alone and is true
  abbrev pub seat_guard : Seats → ℕ → Kept M T V P Q R F → Option Guard
  seat_guard s k Share = share_guard s k
  seat_guard s k Unshare = unshare_guard s k
  seat_guard s k Yield = yield_guard s k
  seat_guard s k Retake = retake_guard s k
  seat_guard s k (Seek want) = seek_guard s k (purpose_of want) false
  seat_guard s k (Take want) = take_guard s k (purpose_of want) false true
  seat_guard s k Release = release_guard s k
  seat_guard s k Resume = resume_guard s k
  seat_guard s k (Begin request) = begin_guard s k
  seat_guard s k (End reply) = end_guard s k
  seat_guard s k (Refuse Memory) = end_guard s k
  seat_guard s k _ = None
