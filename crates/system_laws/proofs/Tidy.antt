-- The seats after every entry keep what all states of the seats keep.
use Rattle.std.proofs.Common.{◌≡◌, ℕ, ◌<◌, length, Option, Some, None, refl, sym}
use Rattle.std.proofs.lemmas.Option.{none-some}
use Rattle.system_seats.specs.declared.guard.Guard.{Guard}
use Rattle.system_seats.specs.Shapes.{IsTidy}
use Rattle.system_seats.proofs.Events.{tidy-share, tidy-unshare, tidy-yield, tidy-retake, tidy-seek, tidy-take}
use Rattle.system_seats.proofs.Events.{tidy-release, tidy-resume, tidy-begin, tidy-end}
use Rattle.system_events.specs.declared.event.Cause.TheVariants.{Memory}
use Rattle.system_events.specs.declared.event.Kept.{Kept}
use Rattle.system_events.specs.declared.event.Kept.TheVariants.{Share, Unshare, Yield, Retake, Seek, Take, Release}
use Rattle.system_events.specs.declared.event.Kept.TheVariants.{Resume, Begin, End, Refuse}
use Rattle.system_events.specs.Facts.{Facts}
use Rattle.system_events.specs.State.{State, next_place, purpose_of, in_table, is_wanted}
use Rattle.system_events.specs.Guards.{◌orElse◌, guard_of}
use Rattle.system_events.specs.Steps.{seats_after}

-- where none refuses, the first ones don't
pub first_none : (a b : Option Guard) → (a orElse b) ≡ None → a ≡ None
first_none None b p = refl
first_none (Some g) b p = absurd (none-some g (sym p))

-- where none refuses, the ones that follow don't
pub second_none : (a b : Option Guard) → (a orElse b) ≡ None → b ≡ None
second_none None b p = p
second_none (Some g) b p = absurd (none-some g (sym p))

module _ {M T V P Q R F : Type 0} (f : Facts T V P Q R F) where
  -- an entry whose guards pass keeps it
  pub tidy_after : (s : State M T V P Q R F) (k : ℕ) (kept : Kept M T V P Q R F) → IsTidy s.seats →
      k < length s.seats.lock.rows → guard_of f s k kept ≡ None → IsTidy (seats_after s.seats (next_place s) k kept)
  tidy_after s k Share tidy below p = tidy-share s.seats k tidy below p
  tidy_after s k Unshare tidy below p = tidy-unshare s.seats k tidy below p
  tidy_after s k Yield tidy below p = tidy-yield s.seats k tidy below p
  tidy_after s k Retake tidy below p = tidy-retake s.seats k tidy below p
  tidy_after s k (Seek want) tidy below p =
      tidy-seek s.seats k (purpose_of want) (in_table f s want) (next_place s) tidy below p
  tidy_after s k (Take want) tidy below p =
      tidy-take s.seats k (purpose_of want) (in_table f s want) (is_wanted f s k want) (next_place s) tidy below p
  tidy_after s k Release tidy below p = tidy-release s.seats k tidy below p
  tidy_after s k Resume tidy below p = tidy-resume s.seats k tidy below p
  tidy_after s k (Begin request) tidy below p =
      tidy-begin s.seats k (next_place s) tidy below (first_none _ _ p)
  tidy_after s k (End reply) tidy below p = tidy-end s.seats k tidy below p
  tidy_after s k (Refuse Memory) tidy below p = tidy-end s.seats k tidy below p
  tidy_after s k _ tidy below p = tidy
