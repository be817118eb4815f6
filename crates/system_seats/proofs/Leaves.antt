-- From which shape each event leaves, where none of its guards is true.
use Rattle.std.proofs.Common.{◌≡◌, ℕ, ◌⊎◌, inl, inr, Bool, true, false, not, if◌then◌else◌}
use Rattle.std.proofs.Common.{None, is_some}
use Rattle.std.proofs.lemmas.Bool.{not-false}
use Rattle.share_lock.specs.Rows.{another_exclusive}
use Rattle.share_lock.specs.Rows.{busy_exclusive, eligible}
use Rattle.system_seats.specs.declared.guard.Guard.TheVariants.{OtherExclusive, NotBusy, BusyExclusive}
use Rattle.system_seats.specs.declared.guard.Guard.TheVariants.{StillEligible}
use Rattle.system_seats.specs.declared.guard.Purpose.{Purpose}
use Rattle.system_seats.specs.declared.guard.Purpose.TheVariants.{Load, Unload}
use Rattle.system_seats.specs.Seats.{Seats, row, mark, is_owner, purpose_bit}
use Rattle.system_seats.specs.Guards.{◌when◌else◌, own_yield, own_retake, own_seek, own_take}
use Rattle.system_seats.specs.Guards.{own_release, own_resume}
use Rattle.system_seats.specs.Guards.{yield_guard, retake_guard, seek_guard, take_guard, release_guard, resume_guard}
use Rattle.system_seats.specs.Guards.{list_of_phase}
use Rattle.system_seats.specs.Shapes.{Shape, Shares, Runs, Yields, SeeksLoad, SeeksUnload, Loads, Unloads}
use Rattle.system_seats.specs.Shapes.{LeavesLoad, LeavesUnload, HasShape, IsTidy}
use Rattle.system_seats.proofs.From.{guard_false, yield_shape, retake_shape}
use Rattle.system_seats.proofs.From.{seek_load_shape, seek_unload_shape, take_load_shape, take_unload_shape}
use Rattle.system_seats.proofs.From.{release_shape, resume_shape}
use Rattle.system_seats.proofs.Events.{At, at, at_shape, none_of}

-- a Yield whose guards pass leaves from a seat that runs
pub yield-at : (s : Seats) (k : ℕ) → IsTidy s → yield_guard s k ≡ None → At s k Runs
yield-at s k tidy passed =
    let h : HasShape (row s k) (mark s k) (is_owner s k) = tidy.shapes k in
    at s k _ _ (yield_shape h.shape None
    (at_shape s k h.shape (λ r runs o. own_yield r runs o None) h.fits passed)).0 h.fits

-- a Retake whose guards pass leaves from a seat that yields
pub retake-at : (s : Seats) (k : ℕ) → IsTidy s → retake_guard s k ≡ None → At s k Yields
    × (another_exclusive s.lock.exclusive k ≡ false)
retake-at s k tidy passed =
    let h : HasShape (row s k) (mark s k) (is_owner s k) = tidy.shapes k in
    let from = retake_shape h.shape _
    (at_shape s k h.shape (λ r runs o.
    own_retake r runs o (OtherExclusive when another_exclusive s.lock.exclusive k else None)) h.fits passed) in
    (at s k _ _ from.0 h.fits, (guard_false _ _ _ from.1).0)

-- the shape from which a seat seeks
abbrev pub seeks_from : Purpose → Shape
seeks_from Load = Runs
seeks_from Unload = Shares

-- the shape in which a seat seeks
abbrev pub seeks_as : Purpose → Shape
seeks_as Load = SeeksLoad
seeks_as Unload = SeeksUnload

-- a Seek whose guards pass leaves from a seat that runs, for a load, or shares, for an unload
pub seek-at : (s : Seats) (k : ℕ) (purpose : Purpose) (known : Bool) → IsTidy s → seek_guard s k purpose known ≡ None
    → At s k (seeks_from purpose) × (busy_exclusive s.lock.rows s.lock.exclusive k (purpose_bit purpose) ≡ true)
seek-at s k Load known tidy passed =
    let h : HasShape (row s k) (mark s k) (is_owner s k) = tidy.shapes k in
    let from = seek_load_shape h.shape known _
    (at_shape s k h.shape (λ r runs o.
    own_seek Load r runs o known (NotBusy when not (busy_exclusive s.lock.rows s.lock.exclusive k 0) else None))
    h.fits passed) in
    (at s k _ _ from.0 h.fits, not-false _ (guard_false _ _ _ from.1.1).0)
seek-at s k Unload known tidy passed =
    let h : HasShape (row s k) (mark s k) (is_owner s k) = tidy.shapes k in
    let from = seek_unload_shape h.shape known _
    (at_shape s k h.shape (λ r runs o.
    own_seek Unload r runs o known
    (NotBusy when not (busy_exclusive s.lock.rows s.lock.exclusive k 1) else None)) h.fits passed) in
    (at s k _ _ from.0 h.fits, not-false _ (guard_false _ _ _ from.1).0)

-- a Take whose guards pass leaves from a seat that could seek, or does
pub take-at : (s : Seats) (k : ℕ) (purpose : Purpose) (known wanted : Bool) → IsTidy s →
    take_guard s k purpose known wanted ≡ None
    → (At s k (seeks_from purpose) ⊎ At s k (seeks_as purpose))
    × (busy_exclusive s.lock.rows s.lock.exclusive k (purpose_bit purpose) ≡ false)
take-at s k Load known wanted tidy passed =
    let h : HasShape (row s k) (mark s k) (is_owner s k) = tidy.shapes k in
    let from = take_load_shape h.shape known wanted _
    (at_shape s k h.shape (λ r runs o. own_take Load r runs o known wanted
    (BusyExclusive when busy_exclusive s.lock.rows s.lock.exclusive k 0 else None)) h.fits passed) in (
      elim from.0 [ inl calm ↦ inl (at s k _ _ calm h.fits) | inr seeks ↦ inr (at s k _ _ seeks h.fits) ],
      (guard_false _ _ _ from.1).0,
    )
take-at s k Unload known wanted tidy passed =
    let h : HasShape (row s k) (mark s k) (is_owner s k) = tidy.shapes k in
    let from = take_unload_shape h.shape known wanted _
    (at_shape s k h.shape (λ r runs o. own_take Unload r runs o known wanted
    (BusyExclusive when busy_exclusive s.lock.rows s.lock.exclusive k 1 else None)) h.fits passed) in (
      elim from.0 [ inl calm ↦ inl (at s k _ _ calm h.fits) | inr seeks ↦ inr (at s k _ _ seeks h.fits) ],
      (guard_false _ _ _ from.1).0,
    )

-- a Release whose guards pass leaves from a seat that loads or unloads
pub release-at : (s : Seats) (k : ℕ) → IsTidy s → release_guard s k ≡ None → At s k Loads ⊎ At s k Unloads
release-at s k tidy passed =
    let h : HasShape (row s k) (mark s k) (is_owner s k) = tidy.shapes k in
    elim (release_shape h.shape None (at_shape s k h.shape (λ r runs o. own_release r runs o None) h.fits passed)) [
      | inl loads ↦ inl (at s k _ _ loads h.fits)
      | inr unloads ↦ inr (at s k _ _ unloads h.fits)
    ]

-- a Resume whose guards pass leaves from a seat that leaves
pub resume-at : (s : Seats) (k : ℕ) → IsTidy s → resume_guard s k ≡ None
    → (At s k LeavesLoad ⊎ At s k LeavesUnload)
    × ((s.lock.exclusive ≡ None) × (eligible (list_of_phase (row s k).phase) s.lock.rows ≡ false))
resume-at s k tidy passed =
    let h : HasShape (row s k) (mark s k) (is_owner s k) = tidy.shapes k in
    let from = resume_shape h.shape _
    (at_shape s k h.shape (λ r runs o.
    own_resume r runs o (OtherExclusive when is_some s.lock.exclusive else StillEligible when eligible
    (list_of_phase (row s k).phase) s.lock.rows else None)) h.fits passed) in
    let free = guard_false _ _ _ from.1 in (
      elim from.0 [ inl load ↦ inl (at s k _ _ load h.fits) | inr unload ↦ inr (at s k _ _ unload h.fits) ],
      (none_of _ free.0, (guard_false _ _ _ free.1).0),
    )
