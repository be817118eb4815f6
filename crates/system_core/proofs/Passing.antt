-- Where no guard of a row is true, none of those that look at the seats alone is.
use Rattle.std.proofs.Common.{◌≡◌, ℕ, None, refl}
use Rattle.system_seats.specs.Seats.{row, runs_at, is_owner}
use Rattle.system_seats.proofs.Firsts.{seek_fresh, take_fresh}
use Rattle.system_events.specs.declared.event.Cause.TheVariants.{Memory}
use Rattle.system_events.specs.declared.event.Kept.{Kept}
use Rattle.system_events.specs.declared.event.Kept.TheVariants.{Share, Unshare, Yield, Retake, Seek, Take, Release}
use Rattle.system_events.specs.declared.event.Kept.TheVariants.{Resume, Begin, End, Refuse}
use Rattle.system_events.specs.Facts.{Facts}
use Rattle.system_events.specs.State.{State, purpose_of, in_table, is_wanted}
use Rattle.system_events.specs.Guards.{guard_of}
use Rattle.system_laws.proofs.Tidy.{first_none}
use Rattle.system_core.specs.Seated.{seat_guard}

module _ {M T V P Q R F : Type 0} (f : Facts T V P Q R F) where
  -- an entry that passes the guards of its row passes those of the seats
  pub seat_passes : (s : State M T V P Q R F) (k : ℕ) (kept : Kept M T V P Q R F) → guard_of f s k kept ≡ None →
      seat_guard s.seats k kept ≡ None
  seat_passes s k Share p = p
  seat_passes s k Unshare p = p
  seat_passes s k Yield p = p
  seat_passes s k Retake p = p
  seat_passes s k (Seek want) p =
      seek_fresh (purpose_of want) (row s.seats k) (runs_at s.seats k) (is_owner s.seats k) (in_table f s want) _ p
  seat_passes s k (Take want) p =
      take_fresh (purpose_of want) (row s.seats k) (runs_at s.seats k) (is_owner s.seats k) (in_table f s want)
      (is_wanted f s k want) _ p
  seat_passes s k Release p = p
  seat_passes s k Resume p = p
  seat_passes s k (Begin request) p = first_none _ _ p
  seat_passes s k (End reply) p = p
  seat_passes s k (Refuse Memory) p = p
  seat_passes s k _ p = refl
