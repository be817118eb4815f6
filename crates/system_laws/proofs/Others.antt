-- What an entry leaves of the other seats: all.
use Rattle.std.proofs.Common.{◌≡◌, ◌≢◌, ℕ, refl, set, get_or-set_other}
use Rattle.std.proofs.lemmas.Bool.{cond_both}
use Rattle.share_lock.specs.declared.seat.Row.{Row}
use Rattle.share_lock.specs.Rows.{resting_row, row_at, eligible}
use Rattle.share_lock.specs.Lock.{Lock, row_of}
use Rattle.system_seats.specs.declared.guard.Marks.{Marks}
use Rattle.system_seats.specs.Seats.{Seats, no_marks, mark_at, row, mark, is_calm, purpose_list}
use Rattle.system_seats.specs.Effects.{purpose_of_section}
use Rattle.system_events.specs.declared.event.Cause.TheVariants.{Memory}
use Rattle.system_events.specs.declared.event.Kept.{Kept}
use Rattle.system_events.specs.declared.event.Kept.TheVariants.{Share, Unshare, Yield, Retake, Seek, Take, Release}
use Rattle.system_events.specs.declared.event.Kept.TheVariants.{Resume, Begin, End, Refuse}
use Rattle.system_events.specs.Steps.{seats_after}

module _ (s : Seats) (k j : ℕ) (other : j ≢ k) where
  row_set : (r : Row) → row_at (set s.lock.rows k r) j ≡ row s j
  row_set r = get_or-set_other s.lock.rows k j r resting_row other

  mark_set : (m : Marks) → mark_at (set s.marks k m) j ≡ mark s j
  mark_set m = get_or-set_other s.marks k j m no_marks other

module _ {M T V P Q R F : Type 0} where
  -- the lock's rows of the other seats stay
  pub rows_stay : (s : Seats) (place k : ℕ) (kept : Kept M T V P Q R F) (j : ℕ) → j ≢ k →
      row (seats_after s place k kept) j ≡ row s j
  rows_stay s place k Share j other = row_set s k j other _
  rows_stay s place k Unshare j other = row_set s k j other _
  rows_stay s place k Yield j other = row_set s k j other _
  rows_stay s place k Retake j other = row_set s k j other _
  rows_stay s place k (Seek want) j other = row_set s k j other _
  rows_stay s place k (Take want) j other =
      cond_both (is_calm (row s k).phase) _ _ (λ (x : Seats). row x j ≡ row s j) (λ _. refl)
      (λ _. row_set s k j other _)
  rows_stay s place k Release j other =
      cond_both (eligible (purpose_list (purpose_of_section (mark s k))) s.lock.rows) _ _
      (λ (lock : Lock). row_of lock j ≡ row s j) (λ _. row_set s k j other _) (λ _. refl)
  rows_stay s place k Resume j other = row_set s k j other _
  rows_stay s place k (Refuse Memory) j other = refl
  rows_stay s place k _ j other = refl

  -- the places of the other seats stay
  pub marks_stay : (s : Seats) (place k : ℕ) (kept : Kept M T V P Q R F) (j : ℕ) → j ≢ k →
      mark (seats_after s place k kept) j ≡ mark s j
  marks_stay s place k (Seek want) j other = mark_set s k j other _
  marks_stay s place k (Take want) j other =
      cond_both (is_calm (row s k).phase) _ _ (λ (x : Seats). mark x j ≡ mark s j)
      (λ _. mark_set s k j other _) (λ _. refl)
  marks_stay s place k Release j other = mark_set s k j other _
  marks_stay s place k (Begin request) j other = mark_set s k j other _
  marks_stay s place k (End reply) j other = mark_set s k j other _
  marks_stay s place k (Refuse Memory) j other = mark_set s k j other _
  marks_stay s place k _ j other = refl
