-- No entry changes how many seats there are.
use Rattle.std.proofs.Common.{◌≡◌, ℕ, Bool, true, false, length, length-set, refl, ap, ◌∙◌}
use Rattle.std.specs.Prelude.{if◌then◌else◌}
use Rattle.share_lock.specs.Lock.{Lock}
use Rattle.share_lock.specs.Rows.{eligible}
use Rattle.system_seats.specs.Seats.{Seats, row, mark, is_calm, purpose_list}
use Rattle.system_seats.specs.Effects.{purpose_of_section}
use Rattle.system_events.specs.declared.event.Cause.TheVariants.{Memory}
use Rattle.system_events.specs.declared.event.Entry.{Entry}
use Rattle.system_events.specs.declared.event.Kept.{Kept}
use Rattle.system_events.specs.declared.event.Kept.TheVariants.{Share, Unshare, Yield, Retake, Seek, Take, Release}
use Rattle.system_events.specs.declared.event.Kept.TheVariants.{Resume, Define, Reload, Begin, End, Refuse}
use Rattle.system_events.specs.Facts.{Facts}
use Rattle.system_events.specs.State.{State, next_place}
use Rattle.system_events.specs.Steps.{seats_after}
use Rattle.system_events.specs.Legal.{IsStep}

-- of two seat tables with so many seats, whichever is chosen
either_way : (b : Bool) (n : ℕ) (x y : Seats) → length x.lock.rows ≡ n → length y.lock.rows ≡ n →
    length (if b then x else y).lock.rows ≡ n
either_way true n x y p q = p
either_way false n x y p q = q

-- of two locks with so many rows, whichever is chosen
either_lock : (b : Bool) (n : ℕ) (x y : Lock) → length x.rows ≡ n → length y.rows ≡ n →
    length (if b then x else y).rows ≡ n
either_lock true n x y p q = p
either_lock false n x y p q = q

module _ {M T V P Q R F : Type 0} where
  -- an entry keeps the number of seats
  rows_stay : (s : Seats) (place k : ℕ) (kept : Kept M T V P Q R F) →
      length (seats_after s place k kept).lock.rows ≡ length s.lock.rows
  rows_stay s place k Share = length-set s.lock.rows k _
  rows_stay s place k Unshare = length-set s.lock.rows k _
  rows_stay s place k Yield = length-set s.lock.rows k _
  rows_stay s place k Retake = length-set s.lock.rows k _
  rows_stay s place k (Seek want) = length-set s.lock.rows k _
  rows_stay s place k (Take want) =
      either_way (is_calm (row s k).phase) (length s.lock.rows) _ _ refl (length-set s.lock.rows k _)
  rows_stay s place k Release =
      either_lock (eligible (purpose_list (purpose_of_section (mark s k))) s.lock.rows) (length s.lock.rows) _ _
      (length-set s.lock.rows k _) refl
  rows_stay s place k Resume = length-set s.lock.rows k _
  rows_stay s place k (Define task) = refl
  rows_stay s place k (Reload program) = refl
  rows_stay s place k (Begin request) = refl
  rows_stay s place k (End reply) = refl
  rows_stay s place k (Refuse Memory) = refl
  rows_stay s place k (Refuse _) = refl

  -- a step keeps the number of seats
  pub step_keeps_rows : (f : Facts T V P Q R F) (old new : State M T V P Q R F) (entry : Entry M T V P Q R F) →
      IsStep f old entry new → length new.seats.lock.rows ≡ length old.seats.lock.rows
  step_keeps_rows f old new entry step =
      ap (λ (s : State M T V P Q R F). length s.seats.lock.rows) step.is
      ∙ rows_stay old.seats (next_place old) entry.seat entry.kept
