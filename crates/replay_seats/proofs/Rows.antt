-- No entry changes how many seats there are.
use Rattle.std.proofs.Common.{◌≡◌, ℕ, List, [], ◌∷◌, Bool, true, false, Some, if◌then◌else◌, length, length-set, refl}
use Rattle.std.proofs.Common.{sym, ap, ◌∙◌, subst}
use Rattle.std.proofs.lemmas.List.{length-replicate}
use Rattle.std.proofs.Common.{◌≤◌, ◌<◌, inl, inr, arith}
use Rattle.share_lock.specs.Rows.{eligible}
use Rattle.share_lock.specs.Lock.{Lock, changed_at, taken_by, released, releasing, restored}
use Rattle.system_seats.specs.Seats.{Seats, is_calm, row, mark, purpose_list}
use Rattle.system_seats.specs.Effects.{after_take, release_lock, purpose_of_section, with_marks, with_section}
use Rattle.system_events.specs.declared.event.Cause.{Cause}
use Rattle.system_events.specs.declared.event.Cause.TheVariants as cause
use Rattle.system_events.specs.declared.event.Entry.{Entry}
use Rattle.system_events.specs.declared.event.Kept.{Kept}
use Rattle.system_events.specs.declared.event.Kept.TheVariants.{Share, Unshare, Yield, Retake, Seek, Take, Release}
use Rattle.system_events.specs.declared.event.Kept.TheVariants.{Resume, Define, Reload, Begin, End, Refuse}
use Rattle.system_events.specs.Facts.{Facts}
use Rattle.system_events.specs.State.{State, next_place}
use Rattle.system_events.specs.Steps.{seats_after, seats_after_refuse, effect}
use Rattle.system_events.specs.Legal.{start, after, after_from, IsAfter}
use Rattle.seat_operations.specs.Readying.{IsMoved}
use Rattle.seat_progress.proofs.Progress.{entry_is_longer}

-- a Take keeps the rows, whether the seat was calm or sought
take_rows : (s : Seats) (k place : ℕ) → length (after_take s k place).lock.rows ≡ length s.lock.rows
take_rows s k place = by (is_calm (row s k).phase)
  where
    calmly : Seats
    calmly = record { lock = taken_by k s.lock; marks = with_marks s k (with_section s k (Some place)) }

    by : (calm : Bool) →
        length (if calm then calmly else record s { lock = taken_by k (changed_at s.lock k restored) }).lock.rows
        ≡ length s.lock.rows
    by true = refl
    by false = length-set s.lock.rows k _

-- so does a Release, whether the seat waits behind it or not
release_rows : (lock : Lock) (k list : ℕ) → length (release_lock lock k list).rows ≡ length lock.rows
release_rows lock k list = by (eligible list lock.rows)
  where
    by : (waits : Bool) →
        length (if waits then released (changed_at lock k (releasing list)) else released lock).rows
        ≡ length lock.rows
    by true = length-set lock.rows k _
    by false = refl

module _ {M T V P Q R F : Type 0} where
  -- so does a refusal
  refuse_rows : (s : Seats) (k : ℕ) (why : Cause M T V P Q R F) →
      length (seats_after_refuse s k why).lock.rows ≡ length s.lock.rows
  refuse_rows s k cause.Memory = refl
  refuse_rows s k _ = refl

  -- so does every entry
  pub entry_rows : (s : Seats) (place k : ℕ) (kept : Kept M T V P Q R F) →
      length (seats_after s place k kept).lock.rows ≡ length s.lock.rows
  entry_rows s place k Share = length-set s.lock.rows k _
  entry_rows s place k Unshare = length-set s.lock.rows k _
  entry_rows s place k Yield = length-set s.lock.rows k _
  entry_rows s place k Retake = length-set s.lock.rows k _
  entry_rows s place k (Seek want) = length-set s.lock.rows k _
  entry_rows s place k (Take want) = take_rows s k place
  entry_rows s place k Release = release_rows s.lock k (purpose_list (purpose_of_section (mark s k)))
  entry_rows s place k Resume = length-set s.lock.rows k _
  entry_rows s place k (Define task) = refl
  entry_rows s place k (Reload program) = refl
  entry_rows s place k (Begin request) = refl
  entry_rows s place k (End reply) = refl
  entry_rows s place k (Refuse why) = refuse_rows s k why

module _ {M T V P Q R F : Type 0} (f : Facts T V P Q R F) where
  -- a step keeps how many seats there are
  pub moved_rows : (old new : State M T V P Q R F) (k : ℕ) → IsMoved f old new k →
      length new.seats.lock.rows ≡ length old.seats.lock.rows
  moved_rows old new k (inl same) = ap (λ (s : State M T V P Q R F). length s.seats.lock.rows) same
  moved_rows old new k (inr entered) =
      ap (λ (s : State M T V P Q R F). length s.seats.lock.rows) entered.1.is
      ∙ entry_rows old.seats (next_place old) k entered.0

  -- a step makes the history no shorter
  pub moved_longer : (old new : State M T V P Q R F) (k : ℕ) → IsMoved f old new k →
      length old.history ≤ length new.history
  moved_longer old new k (inl same) =
      let equal : length new.history ≡ length old.history = ap (λ (s : State M T V P Q R F). length s.history) same in
      omega (arith, equal)
  moved_longer old new k (inr entered) =
      let longer : length old.history < length new.history = entry_is_longer f old new k entered.0 entered.1 in
      omega (arith, longer)

module _ {M T V P Q R F : Type 0} (f : Facts T V P Q R F) where
  -- so do many entries
  rows_from : (s : State M T V P Q R F) (entries : List (Entry M T V P Q R F)) →
      length (after_from f s entries).seats.lock.rows ≡ length s.seats.lock.rows
  rows_from s [] = refl
  rows_from s (entry ∷ entries) = rows_from (effect f s entry.seat entry.kept) entries
      ∙ entry_rows s.seats (next_place s) entry.seat entry.kept

  -- a state behind a legal history of so many seats has as many
  rows_after : (seats : ℕ) (s : State M T V P Q R F) → IsAfter f seats s → length s.seats.lock.rows ≡ seats
  rows_after seats s is =
      ap (λ (x : State M T V P Q R F). length x.seats.lock.rows) (is.state ∙ ap (after f seats) is.legal.opens)
      ∙ (rows_from (start f seats) is.legal.entries ∙ length-replicate seats _)

  -- so its history is a legal one of as many seats as there are
  pub legal_of_rows : (seats count : ℕ) (s : State M T V P Q R F) → IsAfter f seats s →
      length s.seats.lock.rows ≡ count → IsAfter f count s
  legal_of_rows seats count s is rows = subst (λ n. IsAfter f n s) (sym (rows_after seats s is) ∙ rows) is
