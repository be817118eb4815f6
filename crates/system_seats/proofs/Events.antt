-- Every event keeps what the states of the seats keep.
use Rattle.std.proofs.Common.{◌≡◌, ◌≢◌, ℕ, ◌<◌, ◌≤◌, ◌==◌, inl, inr, Bool, true, false, not, if◌then◌else◌, List}
use Rattle.std.proofs.Common.{length, Option, Some, None, is_some, refl, sym, ap, ◌∙◌, subst, arith}
use Rattle.std.proofs.lemmas.Bool.{true≢false, or_parts, not-false, ne_eqb, eqb-true, cond-true, cond-false, cond_both}
use Rattle.std.proofs.lemmas.Bool.{cases_lt, ltb-false}
use Rattle.std.proofs.lemmas.Option.{slice_get-get_or}
use Rattle.std.proofs.lemmas.List.{get_or_past}
use Rattle.share_lock.specs.declared.seat.Row.{Row}
use Rattle.share_lock.specs.Rows.{resting_row, row_at, holds_shares, waits_without, another, another_exclusive}
use Rattle.share_lock.specs.Rows.{busy_share, busy_exclusive, eligible}
use Rattle.share_lock.specs.Lock.{owns, changed_at, taken_by, released, with_share, without_share, seeking}
use Rattle.share_lock.specs.Lock.{releasing, yielded, restored}
use Rattle.share_lock.proofs.OtherSeats.{another_false_at}
use Rattle.system_seats.specs.declared.guard.Guard.{Guard}
use Rattle.system_seats.specs.declared.guard.Guard.TheVariants.{BusyShare, OtherExclusive, NotBusy, BusyExclusive}
use Rattle.system_seats.specs.declared.guard.Guard.TheVariants.{StillEligible, Exclusive}
use Rattle.system_seats.specs.declared.guard.Purpose.{Purpose}
use Rattle.system_seats.specs.declared.guard.Purpose.TheVariants.{Load, Unload}
use Rattle.system_seats.specs.Seats.{Seats, Marks, row, mark, runs_at, is_owner, is_calm, purpose_list}
use Rattle.system_seats.specs.Guards.{◌when◌else◌, own_share, own_unshare, own_yield, own_retake, own_seek, own_take}
use Rattle.system_seats.specs.Guards.{own_release, own_resume, own_begin, own_end, share_guard, unshare_guard}
use Rattle.system_seats.specs.Guards.{yield_guard, retake_guard, seek_guard, take_guard, release_guard, resume_guard}
use Rattle.system_seats.specs.Guards.{begin_guard, end_guard, list_of_phase}
use Rattle.system_seats.specs.Effects.{with_marks, after_share, after_unshare, after_yield, after_retake, with_section}
use Rattle.system_seats.specs.Effects.{after_seek, after_take, purpose_of_section, release_lock, after_release}
use Rattle.system_seats.specs.Effects.{after_resume, after_begin, after_end}
use Rattle.system_seats.specs.Shapes.{Shape, Rests, Shares, Runs, Yields, SeeksLoad, SeeksUnload, Loads, Unloads}
use Rattle.system_seats.specs.Shapes.{LeavesLoad, LeavesUnload, Fits, HasShape, IsTidy, shape_row, shape_runs}
use Rattle.system_seats.specs.Shapes.{shape_owns}
use Rattle.system_seats.proofs.Moves.{same_rows, same_marks, moved-none, moved-same, moved-taken}
use Rattle.system_seats.proofs.From.{guard_false, share_shape, unshare_shape, yield_shape, retake_shape}
use Rattle.system_seats.proofs.From.{seek_load_shape, seek_unload_shape, take_load_shape, take_unload_shape}
use Rattle.system_seats.proofs.From.{release_shape, resume_shape, begin_shape, begin_rest, end_shape, idle_shape}

-- the guards of the row, at its shape
pub at_shape : (s : Seats) (k : ℕ) (sh : Shape) (G : Row → Bool → Bool → Option Guard) →
    Fits sh (row s k) (mark s k) (is_owner s k) → G (row s k) (runs_at s k) (is_owner s k) ≡ None
    → G (shape_row sh) (shape_runs sh) (shape_owns sh) ≡ None
at_shape s k sh G f p = sym (λ i. G (f.row i) (f.running i) (f.owner i)) ∙ p

-- the seat has the shape
abbrev pub At : Seats → ℕ → Shape → Type 0
At s k sh = Fits sh (row s k) (mark s k) (is_owner s k)

-- a seat of one shape is of any shape that is the same
pub at : (s : Seats) (k : ℕ) (sh sh' : Shape) → sh ≡ sh' → At s k sh → At s k sh'
at s k sh sh' e f = subst (λ x. At s k x) e f

-- WHO IS EXCLUSIVE

nobody : (e : Option ℕ) (k : ℕ) → another_exclusive e k ≡ false → owns e k ≡ false → e ≡ None
nobody None k a b = refl
nobody (Some o) k a b = absurd (true≢false (sym (not-false (o == k) a) ∙ b))

nobody_owns : (e : Option ℕ) → e ≡ None → (j : ℕ) → owns e j ≡ false
nobody_owns e none j = ap (λ x. owns x j) none

-- what is not there is None
pub none_of : (e : Option ℕ) → is_some e ≡ false → e ≡ None
none_of None p = refl
none_of (Some o) p = absurd (true≢false p)

sole : (e : Option ℕ) (k : ℕ) → owns e k ≡ true → (j : ℕ) → j ≢ k → owns e j ≡ false
sole None k own j other = refl
sole (Some o) k own j other = ne_eqb o j (λ same. other (sym same ∙ eqb-true o k own))

depth_none : (s : Seats) → IsTidy s → s.lock.exclusive ≡ None → s.lock.depth ≡ 0
depth_none s tidy none = tidy.once ∙ ap (λ e. if is_some e then 1 else 0) none

-- OTHER SEATS

no_other : (test : Row → Bool) (rows : List Row) (k : ℕ) → test resting_row ≡ false → another test rows k ≡ false →
    (j : ℕ) → j ≢ k → test (row_at rows j) ≡ false
no_other test rows k resting none j other =
    elim (cases_lt j (length rows)) [
      | inl below ↦ another_false_at test rows k none j (row_at rows j) other
          (slice_get-get_or rows j resting_row below)
      | inr beyond ↦ ap test (beyond_rest rows j beyond) ∙ resting
    ]
  where
    beyond_rest : (rs : List Row) (i : ℕ) → length rs ≤ i → row_at rs i ≡ resting_row
    beyond_rest rs i p = get_or_past rs i resting_row p

no_shares : (r : Row) → holds_shares r ≡ false → r.shares ≡ 0
no_shares r p = let none : r.shares ≤ 0 = ltb-false 0 r.shares p in omega arith

others_share_not : (s : Seats) (k : ℕ) → another holds_shares s.lock.rows k ≡ false → (j : ℕ) → j ≢ k →
    (row s j).shares ≡ 0
others_share_not s k none j other = no_shares (row s j) (no_other holds_shares s.lock.rows k refl none j other)

-- SHARE, UNSHARE, YIELD, RETAKE

-- a Share whose guards pass leaves from a seat that rests
pub share-at : (s : Seats) (k : ℕ) → IsTidy s → share_guard s k ≡ None → At s k Rests
    × ((busy_share s.lock.rows s.lock.exclusive k 7 ≡ false) × (s.lock.exclusive ≡ None))
share-at s k tidy passed =
    let h : HasShape (row s k) (mark s k) (is_owner s k) = tidy.shapes k in
    let rests : (h.shape ≡ Rests) × ((BusyShare when busy_share s.lock.rows s.lock.exclusive k 7 else None) ≡ None) =
    share_shape h.shape _ (at_shape s k h.shape
    (λ r runs o. own_share r runs o (BusyShare when busy_share s.lock.rows s.lock.exclusive k 7 else None))
    h.fits passed) in
    let fits : At s k Rests = at s k _ _ rests.0 h.fits in
    let busy : busy_share s.lock.rows s.lock.exclusive k 7 ≡ false = (guard_false _ _ _ rests.1).0 in
    (fits, (busy, nobody _ k (or_parts _ _ busy).0 fits.owner))

-- an Unshare whose guards pass leaves from a seat that shares
pub unshare-at : (s : Seats) (k : ℕ) → IsTidy s → unshare_guard s k ≡ None → At s k Shares
unshare-at s k tidy passed =
    let h : HasShape (row s k) (mark s k) (is_owner s k) = tidy.shapes k in
    at s k _ _ (unshare_shape h.shape None
    (at_shape s k h.shape (λ r runs o. own_unshare r runs o None) h.fits passed)).0 h.fits

-- a Share keeps what all states of the seats keep
pub tidy-share : (s : Seats) (k : ℕ) → IsTidy s → k < length s.lock.rows → share_guard s k ≡ None →
    IsTidy (after_share s k)
tidy-share s k tidy below passed =
    let h : HasShape (row s k) (mark s k) (is_owner s k) = tidy.shapes k in
    let rests : (h.shape ≡ Rests) × ((BusyShare when busy_share s.lock.rows s.lock.exclusive k 7 else None) ≡ None) =
    share_shape h.shape _ (at_shape s k h.shape
    (λ r runs o. own_share r runs o (BusyShare when busy_share s.lock.rows s.lock.exclusive k 7 else None))
    h.fits passed) in
    let fits : At s k Rests = at s k _ _ rests.0 h.fits in
    let free : another_exclusive s.lock.exclusive k ≡ false = (or_parts _ _ (guard_false _ _ _ rests.1).0).0 in
    let none : s.lock.exclusive ≡ None = nobody _ k free fits.owner in
    moved-none s (after_share s k) k (with_share (row s k)) (mark s k) Shares tidy below
    (record { rows = refl; marks = same_marks s k })
    (record { row = ap with_share fits.row; running = fits.running; section = fits.section; owner = refl }) none
    (depth_none s tidy none) (λ j _. nobody_owns _ none j)

-- an Unshare keeps what all states of the seats keep
pub tidy-unshare : (s : Seats) (k : ℕ) → IsTidy s → k < length s.lock.rows → unshare_guard s k ≡ None →
    IsTidy (after_unshare s k)
tidy-unshare s k tidy below passed =
    let h : HasShape (row s k) (mark s k) (is_owner s k) = tidy.shapes k in
    let shares : (h.shape ≡ Shares)
    × (None ≡ None) = unshare_shape h.shape None
    (at_shape s k h.shape (λ r runs o. own_unshare r runs o None) h.fits passed) in
    let fits : At s k Shares = at s k _ _ shares.0 h.fits in
    moved-same s (after_unshare s k) k (without_share (row s k)) (mark s k) Rests tidy below
    (record { rows = refl; marks = same_marks s k })
    (record { row = ap without_share fits.row; running = fits.running; section = fits.section; owner = refl })
    fits.owner refl refl
    (λ _. ap (λ (r : Row). (without_share r).shares) fits.row) (λ p. p)

-- a Yield keeps what all states of the seats keep
pub tidy-yield : (s : Seats) (k : ℕ) → IsTidy s → k < length s.lock.rows → yield_guard s k ≡ None →
    IsTidy (after_yield s k)
tidy-yield s k tidy below passed =
    let h : HasShape (row s k) (mark s k) (is_owner s k) = tidy.shapes k in
    let runs : (h.shape ≡ Runs)
    × (None ≡ None) = yield_shape h.shape None
    (at_shape s k h.shape (λ r runs o. own_yield r runs o None) h.fits passed) in
    let fits : At s k Runs = at s k _ _ runs.0 h.fits in
    moved-same s (after_yield s k) k (yielded 1 (row s k)) (mark s k) Yields tidy below
    (record { rows = refl; marks = same_marks s k })
    (record { row = ap (yielded 1) fits.row; running = fits.running; section = fits.section; owner = refl })
    fits.owner refl refl
    (λ _. ap (λ (r : Row). (yielded 1 r).shares) fits.row) (λ p. p)

-- a Retake keeps what all states of the seats keep
pub tidy-retake : (s : Seats) (k : ℕ) → IsTidy s → k < length s.lock.rows → retake_guard s k ≡ None →
    IsTidy (after_retake s k)
tidy-retake s k tidy below passed =
    let h : HasShape (row s k) (mark s k) (is_owner s k) = tidy.shapes k in
    let yields : (h.shape ≡ Yields) × ((OtherExclusive when another_exclusive s.lock.exclusive k else None) ≡ None) =
    retake_shape h.shape _ (at_shape s k h.shape
    (λ r runs o. own_retake r runs o (OtherExclusive when another_exclusive s.lock.exclusive k else None)) h.fits
    passed) in
    let fits : At s k Yields = at s k _ _ yields.0 h.fits in
    let none : s.lock.exclusive ≡ None = nobody _ k (guard_false _ _ _ yields.1).0 fits.owner in
    moved-none s (after_retake s k) k (restored (row s k)) (mark s k) Runs tidy below
    (record { rows = refl; marks = same_marks s k })
    (record { row = ap restored fits.row; running = fits.running; section = fits.section; owner = refl }) none
    (depth_none s tidy none) (λ j _. nobody_owns _ none j)

-- SEEK AND TAKE

-- a Seek keeps what all states of the seats keep
pub tidy-seek : (s : Seats) (k : ℕ) (purpose : Purpose) (known : Bool) (place : ℕ) → IsTidy s →
    k < length s.lock.rows → seek_guard s k purpose known ≡ None → IsTidy (after_seek s k purpose place)
tidy-seek s k Load known place tidy below passed =
    let h : HasShape (row s k) (mark s k) (is_owner s k) = tidy.shapes k in
    let from = seek_load_shape h.shape known _
    (at_shape s k h.shape (λ r runs o.
    own_seek Load r runs o known (NotBusy when not (busy_exclusive s.lock.rows s.lock.exclusive k 0) else None))
    h.fits passed) in
    let fits : At s k Runs = at s k _ _ from.0 h.fits in
    moved-same s (after_seek s k Load place) k (seeking 0 1 (row s k)) (with_section s k (Some place)) SeeksLoad tidy
    below (record { rows = refl; marks = refl })
    (record { row = ap (seeking 0 1) fits.row; running = fits.running; section = refl; owner = refl }) fits.owner
    refl refl
    (λ _. ap (λ (r : Row). (seeking 0 1 r).shares) fits.row) (λ p. p)
tidy-seek s k Unload known place tidy below passed =
    let h : HasShape (row s k) (mark s k) (is_owner s k) = tidy.shapes k in
    let from = seek_unload_shape h.shape known _
    (at_shape s k h.shape (λ r runs o.
    own_seek Unload r runs o known
    (NotBusy when not (busy_exclusive s.lock.rows s.lock.exclusive k 1) else None)) h.fits passed) in
    let fits : At s k Shares = at s k _ _ from.0 h.fits in
    moved-same s (after_seek s k Unload place) k (seeking 1 3 (row s k)) (with_section s k (Some place)) SeeksUnload
    tidy below (record { rows = refl; marks = refl })
    (record { row = ap (seeking 1 3) fits.row; running = fits.running; section = refl; owner = refl }) fits.owner
    refl refl
    (λ _. ap (λ (r : Row). (seeking 1 3 r).shares) fits.row) (λ p. p)

-- where an unload isn't busy, no other seat runs
others_run_not : (s : Seats) (k : ℕ) → IsTidy s → s.lock.exclusive ≡ None → another (waits_without 1) s.lock.rows k
    ≡ false → another holds_shares s.lock.rows k ≡ false
    → (j : ℕ) → j ≢ k → (mark s j).running ≡ None
others_run_not s k tidy none waits shares j other =
    let h : HasShape (row s j) (mark s j) (is_owner s j) = tidy.shapes j in
    let idle : shape_runs h.shape ≡ false = idle_shape h.shape (ap (λ (r : Row). r.shares) (sym h.fits.row)
    ∙ others_share_not s k shares j other)
    (ap (λ r. waits_without 1 r) (sym h.fits.row)
    ∙ no_other (waits_without 1) s.lock.rows k refl waits j other) in
    none_of _ (h.fits.running ∙ idle)

-- nothing keeps the seat from being exclusive
record Clear (s : Seats) (k bit : ℕ) : Type 0 where
  none : s.lock.exclusive ≡ None
  waits : another (waits_without bit) s.lock.rows k ≡ false
  shares : another holds_shares s.lock.rows k ≡ false

clear : (s : Seats) (k bit : ℕ) → is_owner s k ≡ false →
    (BusyExclusive when busy_exclusive s.lock.rows s.lock.exclusive k bit else None) ≡ None → Clear s k bit
clear s k bit apart passed =
    let parts : (busy_share s.lock.rows s.lock.exclusive k bit ≡ false)
    × (another holds_shares s.lock.rows k ≡ false) = or_parts _ _ (guard_false _ _ _ passed).0 in
    let inner : (another_exclusive s.lock.exclusive k ≡ false)
    × (another (waits_without bit) s.lock.rows k ≡ false) = or_parts _ _ parts.0 in
    record { none = nobody _ k inner.0 apart; waits = inner.1; shares = parts.1 }

runs_not_none : (m : Marks) → is_some m.running ≡ true → m.running ≡ None → ⊥
runs_not_none m p q = true≢false (sym p ∙ ap is_some q)

taken_calm : (s : Seats) (k place : ℕ) (sh sh' : Shape) → IsTidy s → k < length s.lock.rows → At s k sh →
    Fits sh' (row s k) (with_section s k (Some place)) true → is_calm (shape_row sh).phase ≡ true
    → s.lock.exclusive ≡ None → ((j : ℕ) → j ≢ k → (row s j).shares ≡ 0) →
    ((mark s k).running ≡ None → (j : ℕ) → j ≢ k → (mark s j).running ≡ None) → IsTidy (after_take s k place)
taken_calm s k place sh sh' tidy below fits after calm none alone quiet =
    subst IsTidy (sym (cond-true (is_calm (row s k).phase) _ _ (ap (λ (r : Row). is_calm r.phase) fits.row ∙ calm)))
    (moved-taken s (record { lock = taken_by k s.lock; marks = with_marks s k (with_section s k (Some place)) }) k
    (row s k) (with_section s k (Some place)) sh' tidy below
    (record { rows = same_rows s k; marks = refl }) after none refl refl alone quiet)

taken_sought : (s : Seats) (k place : ℕ) (sh sh' : Shape) → IsTidy s → k < length s.lock.rows → At s k sh →
    Fits sh' (restored (row s k)) (mark s k) true → is_calm (shape_row sh).phase ≡ false
    → s.lock.exclusive ≡ None → ((j : ℕ) → j ≢ k → (row s j).shares ≡ 0) →
    ((mark s k).running ≡ None → (j : ℕ) → j ≢ k → (mark s j).running ≡ None) → IsTidy (after_take s k place)
taken_sought s k place sh sh' tidy below fits after calm none alone quiet =
    subst IsTidy (sym (cond-false (is_calm (row s k).phase) _ _ (ap (λ (r : Row). is_calm r.phase) fits.row ∙ calm)))
    (moved-taken s (record s { lock = taken_by k (changed_at s.lock k restored) }) k (restored (row s k))
    (mark s k) sh' tidy below
    (record { rows = refl; marks = same_marks s k }) after none refl refl alone quiet)

-- a Take keeps what all states of the seats keep
pub tidy-take : (s : Seats) (k : ℕ) (purpose : Purpose) (known wanted : Bool) (place : ℕ) → IsTidy s →
    k < length s.lock.rows → take_guard s k purpose known wanted ≡ None → IsTidy (after_take s k place)
tidy-take s k Load known wanted place tidy below passed =
    let h : HasShape (row s k) (mark s k) (is_owner s k) = tidy.shapes k in
    let from = take_load_shape h.shape known wanted _
    (at_shape s k h.shape (λ r runs o. own_take Load r runs o known wanted
    (BusyExclusive when busy_exclusive s.lock.rows s.lock.exclusive k 0 else None)) h.fits passed) in
    elim from.0 [
      | inl calm ↦
          let fits : At s k Runs = at s k _ _ calm h.fits in
          let c : Clear s k 0 = clear s k 0 fits.owner from.1 in
          taken_calm s k place Runs Loads tidy below fits
          (record { row = fits.row; running = fits.running; section = refl; owner = refl }) refl
          c.none (others_share_not s k c.shares) (λ idle. absurd (runs_not_none (mark s k) fits.running idle))
      | inr seeks ↦
          let fits : At s k SeeksLoad = at s k _ _ seeks h.fits in
          let c : Clear s k 0 = clear s k 0 fits.owner from.1 in
          taken_sought s k place SeeksLoad Loads tidy below fits
          (record { row = ap restored fits.row; running = fits.running; section = fits.section; owner = refl }) refl
          c.none (others_share_not s k c.shares) (λ idle. absurd (runs_not_none (mark s k) fits.running idle))
    ]
tidy-take s k Unload known wanted place tidy below passed =
    let h : HasShape (row s k) (mark s k) (is_owner s k) = tidy.shapes k in
    let from = take_unload_shape h.shape known wanted _
    (at_shape s k h.shape (λ r runs o. own_take Unload r runs o known wanted
    (BusyExclusive when busy_exclusive s.lock.rows s.lock.exclusive k 1 else None)) h.fits passed) in
    elim from.0 [
      | inl calm ↦
          let fits : At s k Shares = at s k _ _ calm h.fits in
          let c : Clear s k 1 = clear s k 1 fits.owner from.1 in
          taken_calm s k place Shares Unloads tidy below fits
          (record { row = fits.row; running = fits.running; section = refl; owner = refl }) refl
          c.none (others_share_not s k c.shares) (λ idle. others_run_not s k tidy c.none c.waits c.shares)
      | inr seeks ↦
          let fits : At s k SeeksUnload = at s k _ _ seeks h.fits in
          let c : Clear s k 1 = clear s k 1 fits.owner from.1 in
          taken_sought s k place SeeksUnload Unloads tidy below fits
          (record { row = ap restored fits.row; running = fits.running; section = fits.section; owner = refl }) refl
          c.none (others_share_not s k c.shares) (λ idle. others_run_not s k tidy c.none c.waits c.shares)
    ]

-- RELEASE AND RESUME

released_from : (s : Seats) (k : ℕ) (sh waits free : Shape) (purpose : Purpose) → IsTidy s → k < length s.lock.rows →
    At s k sh → shape_owns sh ≡ true → purpose_of_section (mark s k) ≡ purpose
    → Fits waits (releasing (purpose_list purpose) (row s k)) (with_section s k None) false →
    Fits free (row s k) (with_section s k None) false → IsTidy (after_release s k)
released_from s k sh waits free purpose tidy below fits owns_it is waiting freed =
    let others : (j : ℕ) → j ≢ k → is_owner s j ≡ false = sole s.lock.exclusive k (fits.owner ∙ owns_it) in
    subst (λ p. IsTidy (record {
      lock = release_lock s.lock k (purpose_list p);
      marks =
          with_marks s k (with_section s k None);
    })) (sym is)
    (cond_both (eligible (purpose_list purpose) s.lock.rows)
    (released (changed_at s.lock k (releasing (purpose_list purpose)))) (released s.lock)
    (λ lock. IsTidy (record { lock = lock; marks = with_marks s k (with_section s k None) }))
    (λ _. moved-none s (record {
      lock = released (changed_at s.lock k (releasing (purpose_list purpose)));
      marks =
          with_marks s k (with_section s k None);
    }) k (releasing (purpose_list purpose) (row s k))
    (with_section s k None) waits
    tidy below (record { rows = refl; marks = refl }) waiting refl refl others)
    (λ _. moved-none s (record { lock = released s.lock; marks = with_marks s k (with_section s k None) }) k
    (row s k) (with_section s k None) free
    tidy below (record { rows = same_rows s k; marks = refl }) freed refl refl others))

-- a Release keeps what all states of the seats keep
pub tidy-release : (s : Seats) (k : ℕ) → IsTidy s → k < length s.lock.rows → release_guard s k ≡ None →
    IsTidy (after_release s k)
tidy-release s k tidy below passed =
    let h : HasShape (row s k) (mark s k) (is_owner s k) = tidy.shapes k in
    elim (release_shape h.shape None (at_shape s k h.shape (λ r runs o. own_release r runs o None) h.fits passed)) [
      | inl loads ↦
          let fits : At s k Loads = at s k _ _ loads h.fits in
          released_from s k Loads LeavesLoad Runs Load tidy below fits refl
          (ap (λ b. if b then Load else Unload) fits.running)
          (record { row = ap (releasing 1) fits.row; running = fits.running; section = refl; owner = refl })
          (record { row = fits.row; running = fits.running; section = refl; owner = refl })
      | inr unloads ↦
          let fits : At s k Unloads = at s k _ _ unloads h.fits in
          released_from s k Unloads LeavesUnload Shares Unload tidy below fits refl
          (ap (λ b. if b then Load else Unload) fits.running)
          (record { row = ap (releasing 3) fits.row; running = fits.running; section = refl; owner = refl })
          (record { row = fits.row; running = fits.running; section = refl; owner = refl })
    ]

resumed_from : (s : Seats) (k : ℕ) (sh sh' : Shape) → IsTidy s → k < length s.lock.rows →
    Fits sh' (restored (row s k)) (mark s k) false → s.lock.exclusive ≡ None → IsTidy (after_resume s k)
resumed_from s k sh sh' tidy below fits none =
    moved-none s (after_resume s k) k (restored (row s k)) (mark s k) sh' tidy below
    (record { rows = refl; marks = same_marks s k }) fits none (depth_none s tidy none)
    (λ j _. nobody_owns _ none j)

-- a Resume keeps what all states of the seats keep
pub tidy-resume : (s : Seats) (k : ℕ) → IsTidy s → k < length s.lock.rows → resume_guard s k ≡ None →
    IsTidy (after_resume s k)
tidy-resume s k tidy below passed =
    let h : HasShape (row s k) (mark s k) (is_owner s k) = tidy.shapes k in
    let from = resume_shape h.shape _
    (at_shape s k h.shape (λ r runs o.
    own_resume r runs o (OtherExclusive when is_some s.lock.exclusive else StillEligible when eligible
    (list_of_phase (row s k).phase) s.lock.rows else None)) h.fits passed) in
    let none : s.lock.exclusive ≡ None = none_of _ (guard_false _ _ _ from.1).0 in
    elim from.0 [
      | inl load ↦
          let fits : At s k LeavesLoad = at s k _ _ load h.fits in
          resumed_from s k LeavesLoad Runs tidy below
          (record { row = ap restored fits.row; running = fits.running; section = fits.section; owner = refl }) none
      | inr unload ↦
          let fits : At s k LeavesUnload = at s k _ _ unload h.fits in
          resumed_from s k LeavesUnload Shares tidy below
          (record { row = ap restored fits.row; running = fits.running; section = fits.section; owner = refl }) none
    ]

-- BEGIN AND END

-- a Begin keeps what all states of the seats keep
pub tidy-begin : (s : Seats) (k place : ℕ) → IsTidy s → k < length s.lock.rows → begin_guard s k ≡ None →
    IsTidy (after_begin s k place)
tidy-begin s k place tidy below passed =
    let h : HasShape (row s k) (mark s k) (is_owner s k) = tidy.shapes k in
    let p = at_shape s k h.shape (λ r runs o. own_begin r runs o (Exclusive when is_some s.lock.exclusive else None))
    h.fits passed in
    let none : s.lock.exclusive ≡ None = none_of _ (guard_false _ _ _ (begin_rest h.shape _ p)).0 in
    let from = begin_shape h.shape _ p (sym h.fits.owner ∙ nobody_owns _ none k) in
    let fits : At s k Shares = at s k _ _ from.0 h.fits in
    moved-none s (after_begin s k place) k (row s k) (record (mark s k) { running = Some place }) Runs tidy below
    (record { rows = same_rows s k; marks = refl })
    (record { row = fits.row; running = refl; section = fits.section; owner = refl }) none (depth_none s tidy none)
    (λ j _. nobody_owns _ none j)

-- an End keeps what all states of the seats keep
pub tidy-end : (s : Seats) (k : ℕ) → IsTidy s → k < length s.lock.rows → end_guard s k ≡ None → IsTidy (after_end s k)
tidy-end s k tidy below passed =
    let h : HasShape (row s k) (mark s k) (is_owner s k) = tidy.shapes k in
    let from : (h.shape ≡ Runs)
    × (None ≡ None) = end_shape h.shape None
    (at_shape s k h.shape (λ r runs o. own_end r runs o None) h.fits passed) in
    let fits : At s k Runs = at s k _ _ from.0 h.fits in
    moved-same s (after_end s k) k (row s k) (record (mark s k) { running = None }) Shares tidy below
    (record { rows = same_rows s k; marks = refl })
    (record { row = fits.row; running = refl; section = fits.section; owner = refl }) fits.owner refl refl (λ p. p)
    (λ _. refl)
