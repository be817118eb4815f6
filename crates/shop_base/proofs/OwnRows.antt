-- What an event makes of its own seat's row, and what the row says of the guards.
use Rattle.std.proofs.Common.{◌≡◌, ℕ, ◌<◌, Bool, true, false, ◌&&◌, if◌then◌else◌, List, length, set, Some, None}
use Rattle.std.proofs.Common.{is_some, refl, ap, ◌∙◌, subst, sym, get_or-set_same}
use Rattle.share_lock.specs.declared.seat.Row.{Row}
use Rattle.share_lock.specs.Rows.{resting_row, row_at, eligible}
use Rattle.share_lock.specs.Lock.{Lock, row_of, changed_at, taken_by, with_share, without_share, seeking, releasing}
use Rattle.share_lock.specs.Lock.{yielded, restored, released}
use Rattle.system_seats.specs.declared.table.SystemRow.{SystemRow}
use Rattle.system_seats.specs.declared.guard.Purpose.TheVariants.{Load, Unload}
use Rattle.system_seats.specs.declared.guard.Marks.{Marks}
use Rattle.system_seats.specs.Seats.{Seats, no_marks, mark_at, row, mark, runs_at, is_owner, is_calm}
use Rattle.system_seats.specs.Seats.{purpose_bit, purpose_list}
use Rattle.system_seats.specs.Effects.{purpose_of_section, release_lock, with_marks, with_section}
use Rattle.system_laws.specs.Lawful.{IsExclusive}
use Rattle.system_events.specs.declared.event.Cause.TheVariants.{Memory}
use Rattle.system_events.specs.declared.event.Kept.{Kept}
use Rattle.system_events.specs.declared.event.Kept.TheVariants.{Share, Unshare, Yield, Retake, Seek, Take, Release}
use Rattle.system_events.specs.declared.event.Kept.TheVariants.{Resume, Define, Reload, Begin, End, Refuse}
use Rattle.system_events.specs.State.{purpose_of}
use Rattle.system_events.specs.Steps.{seats_after}
use Rattle.shop_base.specs.Rows.{seat_row, is_exclusive}
use Rattle.shop_base.specs.Acts.{list_of, next_row}

-- the row with the lock's row and the places
abbrev pub row_parts : Row → Marks → SystemRow
row_parts r m = record { lock = r; running = m.running; section = m.section }

-- a choice, seen through a function
by_choice : {A B : Type 0} (b : Bool) (g : A → B) (x y : A) (x' y' : B) → g x ≡ x' → g y ≡ y' →
    g (if b then x else y) ≡ (if b then x' else y')
by_choice true g x y x' y' yes_is no_is = yes_is
by_choice false g x y x' y' yes_is no_is = no_is

module _ (s : Seats) (k : ℕ) (even : length s.marks ≡ length s.lock.rows) (below : k < length s.lock.rows) where
  row_put : (r : Row) → row_at (set s.lock.rows k r) k ≡ r
  row_put r = get_or-set_same s.lock.rows k r resting_row below

  mark_put : (m : Marks) → mark_at (set s.marks k m) k ≡ m
  mark_put m = get_or-set_same s.marks k m no_marks (subst (λ n. k < n) (sym even) below)

  -- whether another seat goes first where this one releases
  abbrev pub goes_first : Bool
  goes_first = eligible (list_of (seat_row s k)) s.lock.rows

  module _ {M T V P Q R F : Type 0} where
    -- an act makes the seat's own row the next one
    pub own_row_after : (place : ℕ) (kept : Kept M T V P Q R F) →
        seat_row (seats_after s place k kept) k ≡ next_row goes_first place (seat_row s k) kept
    own_row_after place Share = ap (λ r. row_parts r (mark s k)) (row_put (with_share (row s k)))
    own_row_after place Unshare = ap (λ r. row_parts r (mark s k)) (row_put (without_share (row s k)))
    own_row_after place Yield = ap (λ r. row_parts r (mark s k)) (row_put (yielded 1 (row s k)))
    own_row_after place Retake = ap (λ r. row_parts r (mark s k)) (row_put (restored (row s k)))
    own_row_after place (Seek want) =
        λ i. row_parts
        (row_put (seeking (purpose_bit (purpose_of want)) (purpose_list (purpose_of want)) (row s k)) i)
        (mark_put (with_section s k (Some place)) i)
    own_row_after place (Take want) =
        by_choice (is_calm (row s k).phase) (λ (x : Seats). seat_row x k) _ _ _ _
        (ap (row_parts (row s k)) (mark_put (with_section s k (Some place))))
        (ap (λ r. row_parts r (mark s k)) (row_put (restored (row s k))))
    own_row_after place Release =
        λ i. row_parts
        (by_choice goes_first (λ (x : Lock). row_of x k)
        (released (changed_at s.lock k (releasing (list_of (seat_row s k))))) (released s.lock)
        (releasing (list_of (seat_row s k)) (row s k)) (row s k)
        (row_put (releasing (list_of (seat_row s k)) (row s k))) refl i)
        (mark_put (with_section s k None) i)
    own_row_after place Resume = ap (λ r. row_parts r (mark s k)) (row_put (restored (row s k)))
    own_row_after place (Begin request) =
        ap (row_parts (row s k)) (mark_put (record (mark s k) { running = Some place }))
    own_row_after place (End reply) = ap (row_parts (row s k)) (mark_put (record (mark s k) { running = None }))
    own_row_after place (Refuse Memory) =
        ap (row_parts (row s k)) (mark_put (record (mark s k) { running = None }))
    own_row_after place _ = refl

-- guards that look at the seat's own row look at what the row tells
pub own_guard : {A : Type 0} (G : Row → Bool → Bool → A) (s : Seats) (k : ℕ) (r : SystemRow) → IsExclusive s →
    seat_row s k ≡ r → G (row s k) (runs_at s k) (is_owner s k) ≡ G r.lock (is_some r.running) (is_exclusive r)
own_guard G s k r exclusive is =
    ap (λ b. G (row s k) (runs_at s k) b) (exclusive.shows k)
    ∙ ap (λ (x : SystemRow). G x.lock (is_some x.running) (is_exclusive x)) is
