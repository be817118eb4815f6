-- What the effects need of the lock, and what they leave.
use Rattle.std.proofs.Common.{◌≡◌, ◌≢◌, ℕ, ◌<◌, ◌≤◌, inl, inr, Bool, true, false, ◌||◌, if◌then◌else◌, List}
use Rattle.std.proofs.Common.{map, length, set, Option, Some, None, is_some, refl, sym, ap, ◌∙◌, subst, arith}
use Rattle.std.proofs.Common.{get_or-set_same}
use Rattle.std.proofs.lemmas.Bool.{true≢false, cond-true, cond-false}
use Rattle.std.proofs.lemmas.List.{map-set, set-get_or}
use Rattle.share_lock.specs.declared.seat.Row.{Row}
use Rattle.share_lock.specs.declared.seat.Phase.{Phase}
use Rattle.share_lock.specs.declared.seat.Phase.TheVariants.{Calm, Seeking, Releasing}
use Rattle.share_lock.specs.Rows.{resting_row, row_at, holds_shares, another_exclusive, busy_share, busy_exclusive}
use Rattle.share_lock.specs.Rows.{eligible}
use Rattle.share_lock.specs.Lock.{Lock, owns, row_of, changed_at, taken_by, refuses_share, with_share, without_share}
use Rattle.share_lock.specs.Lock.{seeking, yielded, restored, releasing, released, holds_back}
use Rattle.system_seats.specs.declared.guard.Purpose.{Purpose}
use Rattle.system_seats.specs.declared.guard.Purpose.TheVariants.{Load, Unload}
use Rattle.system_seats.specs.declared.table.SystemRow.{SystemRow}
use Rattle.system_seats.specs.Seats.{Seats, Marks, row, mark, is_calm, purpose_bit, purpose_list}
use Rattle.system_seats.specs.Copies.{seats_of, lock_part, mark_part, copied}
use Rattle.system_seats.specs.Guards.{share_guard, unshare_guard, yield_guard, retake_guard, seek_guard, take_guard}
use Rattle.system_seats.specs.Guards.{release_guard, resume_guard, begin_guard, end_guard, list_of_phase}
use Rattle.system_seats.specs.Effects.{with_marks, with_section, after_share, after_unshare, after_yield, after_retake}
use Rattle.system_seats.specs.Effects.{after_seek, after_take, purpose_of_section, release_lock, after_release}
use Rattle.system_seats.specs.Effects.{after_resume, after_begin, after_end}
use Rattle.system_seats.specs.Shapes.{Rests, Shares, Runs}
use Rattle.system_seats.specs.Shapes.{IsTidy, sharing, shape_row}
use Rattle.system_seats.proofs.Moves.{Moved, same_marks, same_rows}
use Rattle.system_seats.proofs.Events.{At, share-at, unshare-at, tidy-share, tidy-unshare, tidy-yield, tidy-retake}
use Rattle.system_seats.proofs.Events.{tidy-seek, tidy-take, tidy-release, tidy-resume, tidy-begin, tidy-end}
use Rattle.system_seats.proofs.Leaves.{yield-at, retake-at, seeks_from, seeks_as, seek-at, take-at, release-at}
use Rattle.system_seats.proofs.Leaves.{resume-at}

-- what the fields keep
abbrev pub Kept : Lock → List SystemRow → Type 0
Kept lock rows = (map lock_part rows ≡ lock.rows) × IsTidy (seats_of lock rows)

-- the fields after a change of one row: what they keep, and what contracts see
pub after : (lock lock' : Lock) (rows rows' : List SystemRow) (k : ℕ) (m : Marks) (r : Row) (v t : Seats) →
    seats_of lock rows ≡ v → map lock_part rows ≡ lock.rows → k < length v.lock.rows
    → Moved v t k r m → IsTidy t → lock' ≡ t.lock → rows' ≡ set rows k (copied lock' k m) → Kept lock' rows'
    × (seats_of lock' rows' ≡ t)
after lock lock' rows rows' k m r v t view copies below moved tidy is put =
    let lock_rows : lock'.rows ≡ set v.lock.rows k r = ap (λ (l : Lock). l.rows) is ∙ moved.rows in
    let own : row_of lock' k ≡ r = ap (λ rs. row_at rs k) lock_rows
    ∙ get_or-set_same v.lock.rows k r resting_row below in
    let copies' : map lock_part rows' ≡ lock'.rows =
    ap (map lock_part) put ∙ (map-set lock_part rows k (copied lock' k m)
    ∙ ((λ i. set ((copies ∙ ap (λ (x : Seats). x.lock.rows) view) i) k (own i)) ∙ sym lock_rows)) in
    let marks' : map mark_part rows' ≡ t.marks =
    ap (map mark_part) put ∙ (map-set mark_part rows k (copied lock' k m)
    ∙ (ap (λ (x : Seats). set x.marks k m) view ∙ sym moved.marks)) in
    let shown : seats_of lock' rows' ≡ t = λ i. record { lock = is i; marks = marks' i } in
    ((copies', subst IsTidy (sym shown) tidy), shown)

-- SHARE

-- what the lock asks of a seat that takes a share and gets it
pub record ShareReady (lock : Lock) (k : ℕ) : Type 0 where
  pub calm : (row_of lock k).phase ≡ Calm
  pub few : (row_of lock k).shares < 1000
  pub free : refuses_share lock.rows lock.exclusive k ≡ false

few_of : (r : Row) (n : ℕ) → r.shares ≡ n → n < 1000 → r.shares < 1000
few_of r n is small = omega arith

newcomer : (holds own waits other busy : Bool) → holds ≡ false → own ≡ false → waits ≡ false → busy ≡ false →
    (if holds || own then false else if waits then other else busy) ≡ false
newcomer true own waits other busy a b c d = absurd (true≢false a)
newcomer false true waits other busy a b c d = absurd (true≢false b)
newcomer false false true other busy a b c d = absurd (true≢false c)
newcomer false false false other busy a b c d = d

-- what the lock asks of a Share
pub share-ready : (lock : Lock) (rows : List SystemRow) (v : Seats) (k : ℕ) → seats_of lock rows ≡ v →
    Kept lock rows → share_guard v k ≡ None → ShareReady lock k
share-ready lock rows v k view kept passed =
    let s : Seats = seats_of lock rows in
    let f : At s k Rests × ((busy_share lock.rows lock.exclusive k 7 ≡ false) × (lock.exclusive ≡ None)) =
    share-at s k kept.1 (subst (λ x. share_guard x k ≡ None) (sym view) passed) in
    record {
      calm = ap (λ (r : Row). r.phase) f.0.row;
      few = few_of (row_of lock k) 0 (ap (λ (r : Row). r.shares) f.0.row) (omega arith);
      free = newcomer _ _ _ _ _ (ap holds_shares f.0.row) f.0.owner (ap (λ (r : Row). is_some r.wait) f.0.row) f.1.0;
    }

-- the fields after a Share
pub share-after : (lock lock' : Lock) (rows rows' : List SystemRow) (v : Seats) (k : ℕ) (m : Marks) →
    seats_of lock rows ≡ v → Kept lock rows → k < length v.lock.rows → share_guard v k ≡ None → m ≡ mark v k
    → lock' ≡ changed_at lock k with_share → rows' ≡ set rows k (copied lock' k m) → Kept lock' rows'
    × (seats_of lock' rows' ≡ after_share v k)
share-after lock lock' rows rows' v k m view kept below passed marks is put =
    after lock lock' rows rows' k m (with_share (row v k)) v (after_share v k) view kept.0 below
    (record { rows = refl; marks = same_marks v k ∙ ap (λ x. set v.marks k x) (sym marks) })
    (tidy-share v k (subst IsTidy view kept.1) below passed)
    (is ∙ ap (λ (x : Seats). changed_at x.lock k with_share) view) put

-- UNSHARE

-- what the lock asks of an Unshare
pub unshare-ready : (lock : Lock) (rows : List SystemRow) (v : Seats) (k : ℕ) → seats_of lock rows ≡ v →
    Kept lock rows → unshare_guard v k ≡ None → 0 < (row_of lock k).shares
unshare-ready lock rows v k view kept passed =
    let f : At (seats_of lock rows) k Shares = unshare-at (seats_of lock rows) k kept.1
    (subst (λ x. unshare_guard x k ≡ None) (sym view) passed) in
    let one : (row_of lock k).shares ≡ 1 = ap (λ (r : Row). r.shares) f.row in
    omega arith

-- the fields after an Unshare
pub unshare-after : (lock lock' : Lock) (rows rows' : List SystemRow) (v : Seats) (k : ℕ) (m : Marks) →
    seats_of lock rows ≡ v → Kept lock rows → k < length v.lock.rows → unshare_guard v k ≡ None → m ≡ mark v k
    → lock' ≡ changed_at lock k without_share → rows' ≡ set rows k (copied lock' k m) → Kept lock' rows'
    × (seats_of lock' rows' ≡ after_unshare v k)
unshare-after lock lock' rows rows' v k m view kept below passed marks is put =
    after lock lock' rows rows' k m (without_share (row v k)) v (after_unshare v k) view kept.0 below
    (record { rows = refl; marks = same_marks v k ∙ ap (λ x. set v.marks k x) (sym marks) })
    (tidy-unshare v k (subst IsTidy view kept.1) below passed)
    (is ∙ ap (λ (x : Seats). changed_at x.lock k without_share) view) put

-- A SEAT WITH ONE SHARE, A SEAT THAT PUT IT ASIDE

-- what the lock asks of a seat that has a share and waits for nothing
pub record Sharer (lock : Lock) (k : ℕ) : Type 0 where
  pub calm : (row_of lock k).phase ≡ Calm
  pub room : length (row_of lock k).yields < 8

sharer : (lock : Lock) (k : ℕ) → row_of lock k ≡ sharing → Sharer lock k
sharer lock k is =
    let none : length (row_of lock k).yields ≡ 0 = ap (λ (r : Row). length r.yields) is in
    record { calm = ap (λ (r : Row). r.phase) is; room = omega arith }

shallow : (e : Option ℕ) (depth : ℕ) → depth ≡ (if is_some e then 1 else 0) → depth ≤ 1
shallow None depth p = omega arith
shallow (Some o) depth p = omega arith

-- no seat is exclusive twice over
pub depth_small : (lock : Lock) (rows : List SystemRow) → Kept lock rows → lock.depth ≤ 1
depth_small lock rows kept = shallow lock.exclusive lock.depth kept.1.once

-- YIELD AND RETAKE

-- what the lock asks of a Yield
pub yield-ready : (lock : Lock) (rows : List SystemRow) (v : Seats) (k : ℕ) → seats_of lock rows ≡ v →
    Kept lock rows → yield_guard v k ≡ None → Sharer lock k × (owns lock.exclusive k ≡ false)
yield-ready lock rows v k view kept passed =
    let f : At (seats_of lock rows) k Runs = yield-at (seats_of lock rows) k kept.1
    (subst (λ x. yield_guard x k ≡ None) (sym view) passed) in
    (sharer lock k f.row, f.owner)

-- the fields after a Yield
pub yield-after : (lock lock' : Lock) (rows rows' : List SystemRow) (v : Seats) (k : ℕ) (m : Marks) →
    seats_of lock rows ≡ v → Kept lock rows → k < length v.lock.rows → yield_guard v k ≡ None → m ≡ mark v k
    → lock' ≡ changed_at lock k (yielded 1) → rows' ≡ set rows k (copied lock' k m) → Kept lock' rows'
    × (seats_of lock' rows' ≡ after_yield v k)
yield-after lock lock' rows rows' v k m view kept below passed marks is put =
    after lock lock' rows rows' k m (yielded 1 (row v k)) v (after_yield v k) view kept.0 below
    (record { rows = refl; marks = same_marks v k ∙ ap (λ x. set v.marks k x) (sym marks) })
    (tidy-yield v k (subst IsTidy view kept.1) below passed)
    (is ∙ ap (λ (x : Seats). changed_at x.lock k (yielded 1)) view) put

-- what the lock asks of a seat that takes its share back, and gets it
pub record RetakeReady (lock : Lock) (k : ℕ) : Type 0 where
  pub calm : (row_of lock k).phase ≡ Calm
  pub some : 0 < length (row_of lock k).yields
  pub bare : (row_of lock k).shares ≡ 0
  pub free : another_exclusive lock.exclusive k ≡ false

-- what the lock asks of a Retake
pub retake-ready : (lock : Lock) (rows : List SystemRow) (v : Seats) (k : ℕ) → seats_of lock rows ≡ v →
    Kept lock rows → retake_guard v k ≡ None → RetakeReady lock k
retake-ready lock rows v k view kept passed =
    let f = retake-at (seats_of lock rows) k kept.1 (subst (λ x. retake_guard x k ≡ None) (sym view) passed) in
    let one : length (row_of lock k).yields ≡ 1 = ap (λ (r : Row). length r.yields) f.0.row in
    record {
      calm = ap (λ (r : Row). r.phase) f.0.row;
      some = omega arith;
      bare = ap (λ (r : Row). r.shares) f.0.row;
      free = f.1;
    }

-- the fields after a Retake
pub retake-after : (lock lock' : Lock) (rows rows' : List SystemRow) (v : Seats) (k : ℕ) (m : Marks) →
    seats_of lock rows ≡ v → Kept lock rows → k < length v.lock.rows → retake_guard v k ≡ None → m ≡ mark v k
    → lock' ≡ changed_at lock k (restored) → rows' ≡ set rows k (copied lock' k m) → Kept lock' rows'
    × (seats_of lock' rows' ≡ after_retake v k)
retake-after lock lock' rows rows' v k m view kept below passed marks is put =
    after lock lock' rows rows' k m (restored (row v k)) v (after_retake v k) view kept.0 below
    (record { rows = refl; marks = same_marks v k ∙ ap (λ x. set v.marks k x) (sym marks) })
    (tidy-retake v k (subst IsTidy view kept.1) below passed)
    (is ∙ ap (λ (x : Seats). changed_at x.lock k (restored)) view) put

-- SEEK AND TAKE

sharer_of : (lock : Lock) (rows : List SystemRow) (k : ℕ) (purpose : Purpose) →
    At (seats_of lock rows) k (seeks_from purpose) → Sharer lock k × (owns lock.exclusive k ≡ false)
sharer_of lock rows k Load f = (sharer lock k f.row, f.owner)
sharer_of lock rows k Unload f = (sharer lock k f.row, f.owner)

-- what the lock asks of a Seek
pub seek-ready : (lock : Lock) (rows : List SystemRow) (v : Seats) (k : ℕ) (purpose : Purpose) (known : Bool) →
    seats_of lock rows ≡ v → Kept lock rows → seek_guard v k purpose known ≡ None
    → (Sharer lock k × (owns lock.exclusive k ≡ false))
    × (busy_exclusive lock.rows lock.exclusive k (purpose_bit purpose) ≡ true)
seek-ready lock rows v k purpose known view kept passed =
    let f = seek-at (seats_of lock rows) k purpose known kept.1
    (subst (λ x. seek_guard x k purpose known ≡ None) (sym view) passed) in
    (sharer_of lock rows k purpose f.0, f.1)

-- the fields after a Seek
pub seek-after : (lock lock' : Lock) (rows rows' : List SystemRow) (v : Seats) (k : ℕ) (m : Marks)
    (purpose : Purpose) (known : Bool) (place : ℕ) → seats_of lock rows ≡ v → Kept lock rows → k < length v.lock.rows
    → seek_guard v k purpose known ≡ None → m ≡ mark v k
    → lock' ≡ changed_at lock k (seeking (purpose_bit purpose) (purpose_list purpose)) →
    rows' ≡ set rows k (copied lock' k (record m { section = Some place })) → Kept lock' rows'
    × (seats_of lock' rows' ≡ after_seek v k purpose place)
seek-after lock lock' rows rows' v k m purpose known place view kept below passed marks is put =
    after lock lock' rows rows' k (record m { section = Some place })
    (seeking (purpose_bit purpose) (purpose_list purpose) (row v k)) v (after_seek v k purpose place) view kept.0
    below
    (record { rows = refl; marks = ap (λ (x : Marks). set v.marks k (record x { section = Some place })) (sym marks) })
    (tidy-seek v k purpose known place (subst IsTidy view kept.1) below passed)
    (is ∙ ap (λ (x : Seats). changed_at x.lock k (seeking (purpose_bit purpose) (purpose_list purpose))) view) put

calm≢seeks : (purpose : Purpose) → is_calm (shape_row (seeks_as purpose)).phase ≡ true → ⊥
calm≢seeks Load p = true≢false (sym p)
calm≢seeks Unload p = true≢false (sym p)

-- what the lock asks of a Take of a seat that does not seek
pub take-calm-ready : (lock : Lock) (rows : List SystemRow) (v : Seats) (k : ℕ) (purpose : Purpose)
    (known wanted : Bool) → seats_of lock rows ≡ v → Kept lock rows → take_guard v k purpose known wanted ≡ None
    → is_calm (row v k).phase ≡ true → (Sharer lock k × (owns lock.exclusive k ≡ false))
    × (busy_exclusive lock.rows lock.exclusive k (purpose_bit purpose) ≡ false)
take-calm-ready lock rows v k purpose known wanted view kept passed calm =
    let f = take-at (seats_of lock rows) k purpose known wanted kept.1
    (subst (λ x. take_guard x k purpose known wanted ≡ None) (sym view) passed) in
    let calm_here : is_calm (row_of lock k).phase ≡ true = ap (λ (x : Seats). is_calm (row x k).phase) view ∙ calm in (
      elim f.0 [
        | inl g ↦ sharer_of lock rows k purpose g
        | inr g ↦ absurd (calm≢seeks purpose (ap (λ (r : Row). is_calm r.phase) (sym g.row) ∙ calm_here))
      ],
      f.1,
    )

-- the fields after a Take of a seat that does not seek
pub take-calm-after : (lock lock' : Lock) (rows rows' : List SystemRow) (v : Seats) (k : ℕ) (m : Marks)
    (purpose : Purpose) (known wanted : Bool) (place : ℕ) → seats_of lock rows ≡ v → Kept lock rows →
    k < length v.lock.rows
    → take_guard v k purpose known wanted ≡ None → is_calm (row v k).phase ≡ true → m ≡ mark v k
    → lock' ≡ taken_by k lock → rows' ≡ set rows k (copied lock' k (record m { section = Some place })) →
    Kept lock' rows' × (seats_of lock' rows' ≡ after_take v k place)
take-calm-after lock lock' rows rows' v k m purpose known wanted place view kept below passed calm marks is put =
    let t : Seats = record { lock = taken_by k v.lock; marks = with_marks v k (with_section v k (Some place)) } in
    let same : after_take v k place ≡ t = cond-true (is_calm (row v k).phase) _ _ calm in
    let done : Kept lock' rows' × (seats_of lock' rows' ≡ t) =
    after lock lock' rows rows' k (record m { section = Some place }) (row v k) v t view kept.0 below
    (record {
      rows = same_rows v k;
      marks =
          ap (λ (x : Marks). set v.marks k (record x { section = Some place })) (sym marks);
    })
    (subst IsTidy same (tidy-take v k purpose known wanted place (subst IsTidy view kept.1) below passed))
    (is ∙ ap (λ (x : Seats). taken_by k x.lock) view) put in
    (done.0, done.1 ∙ sym same)

seeks_phase : (purpose : Purpose) → (shape_row (seeks_as purpose)).phase ≡ Seeking (purpose_bit purpose)
seeks_phase Load = refl
seeks_phase Unload = refl

from_calm : (purpose : Purpose) → is_calm (shape_row (seeks_from purpose)).phase ≡ false → ⊥
from_calm Load p = true≢false p
from_calm Unload p = true≢false p

-- a phase that is not Calm
pub not_calm : (p : Phase) → is_calm p ≡ false → p ≢ Calm
not_calm p is same = true≢false (sym (ap is_calm same) ∙ is)

-- what the lock asks of a Take of a seat that seeks
pub take-sought-ready : (lock : Lock) (rows : List SystemRow) (v : Seats) (k : ℕ) (purpose : Purpose)
    (known wanted : Bool) → seats_of lock rows ≡ v → Kept lock rows → take_guard v k purpose known wanted ≡ None
    → is_calm (row v k).phase ≡ false → ((row_of lock k).phase ≡ Seeking (purpose_bit purpose))
    × (busy_exclusive lock.rows lock.exclusive k (purpose_bit purpose) ≡ false)
take-sought-ready lock rows v k purpose known wanted view kept passed calm =
    let f = take-at (seats_of lock rows) k purpose known wanted kept.1
    (subst (λ x. take_guard x k purpose known wanted ≡ None) (sym view) passed) in
    let calm_here : is_calm (row_of lock k).phase ≡ false = ap (λ (x : Seats). is_calm (row x k).phase) view ∙ calm in (
      elim f.0 [
        | inl g ↦ absurd (from_calm purpose (ap (λ (r : Row). is_calm r.phase) (sym g.row) ∙ calm_here))
        | inr g ↦ ap (λ (r : Row). r.phase) g.row ∙ seeks_phase purpose
      ],
      f.1,
    )

-- the fields after a Take of a seat that seeks
pub take-sought-after : (lock lock' : Lock) (rows rows' : List SystemRow) (v : Seats) (k : ℕ) (m : Marks)
    (purpose : Purpose) (known wanted : Bool) (place : ℕ) → seats_of lock rows ≡ v → Kept lock rows →
    k < length v.lock.rows
    → take_guard v k purpose known wanted ≡ None → is_calm (row v k).phase ≡ false → m ≡ mark v k
    → lock' ≡ taken_by k (changed_at lock k restored) → rows' ≡ set rows k (copied lock' k m) → Kept lock' rows'
    × (seats_of lock' rows' ≡ after_take v k place)
take-sought-after lock lock' rows rows' v k m purpose known wanted place view kept below passed calm marks is put =
    let t : Seats = record v { lock = taken_by k (changed_at v.lock k restored) } in
    let same : after_take v k place ≡ t = cond-false (is_calm (row v k).phase) _ _ calm in
    let done : Kept lock' rows' × (seats_of lock' rows' ≡ t) =
    after lock lock' rows rows' k m (restored (row v k)) v t view kept.0 below
    (record { rows = refl; marks = same_marks v k ∙ ap (λ x. set v.marks k x) (sym marks) })
    (subst IsTidy same (tidy-take v k purpose known wanted place (subst IsTidy view kept.1) below passed))
    (is ∙ ap (λ (x : Seats). taken_by k (changed_at x.lock k restored)) view) put in
    (done.0, done.1 ∙ sym same)

-- RELEASE AND RESUME

-- what the lock asks of a Release
pub release-ready : (lock : Lock) (rows : List SystemRow) (v : Seats) (k : ℕ) → seats_of lock rows ≡ v →
    Kept lock rows → release_guard v k ≡ None → Sharer lock k × (owns lock.exclusive k ≡ true)
release-ready lock rows v k view kept passed =
    elim (release-at (seats_of lock rows) k kept.1 (subst (λ x. release_guard x k ≡ None) (sym view) passed)) [
      | inl f ↦ (sharer lock k f.row, f.owner)
      | inr f ↦ (sharer lock k f.row, f.owner)
    ]

release_rows : (b : Bool) (lock : Lock) (k : ℕ) (f : Row → Row)
    → (if b then released (changed_at lock k f) else released lock).rows
    ≡ set lock.rows k (if b then f (row_of lock k) else row_of lock k)
release_rows true lock k f = refl
release_rows false lock k f = sym (set-get_or lock.rows k resting_row)

-- the fields after a Release
pub release-after : (lock lock' : Lock) (rows rows' : List SystemRow) (v : Seats) (k : ℕ) (m : Marks)
    (purpose : Purpose) → seats_of lock rows ≡ v → Kept lock rows → k < length v.lock.rows
    → release_guard v k ≡ None → m ≡ mark v k → purpose ≡ purpose_of_section (mark v k)
    → lock' ≡ release_lock lock k (purpose_list purpose) →
    rows' ≡ set rows k (copied lock' k (record m { section = None })) → Kept lock' rows'
    × (seats_of lock' rows' ≡ after_release v k)
release-after lock lock' rows rows' v k m purpose view kept below passed marks which is put =
    let list : ℕ = purpose_list (purpose_of_section (mark v k)) in
    after lock lock' rows rows' k (record m { section = None })
    (if eligible list v.lock.rows then releasing list (row v k) else row v k) v
    (after_release v k) view kept.0 below
    (record {
      rows = release_rows (eligible list v.lock.rows) v.lock k (releasing list);
      marks =
          ap (λ (x : Marks). set v.marks k (record x { section = None })) (sym marks);
    })
    (tidy-release v k (subst IsTidy view kept.1) below passed)
    (is ∙ (ap (λ p. release_lock lock k (purpose_list p)) which
    ∙ ap (λ (x : Seats). release_lock x.lock k list) view)) put

-- what the lock asks of a seat that waits after a release, and waits no more
pub record ResumeReady (lock : Lock) (k : ℕ) : Type 0 where
  pub list : ℕ
  pub phase : (row_of lock k).phase ≡ Releasing list
  pub free : holds_back lock.rows lock.exclusive list ≡ false

holds_not : (lock : Lock) (list : ℕ) → lock.exclusive ≡ None → eligible list lock.rows ≡ false →
    holds_back lock.rows lock.exclusive list ≡ false
holds_not lock list none not_eligible = ap (λ e. is_some e || eligible list lock.rows) none ∙ not_eligible

resume_at : (lock : Lock) (k list : ℕ) → (row_of lock k).phase ≡ Releasing list → lock.exclusive ≡ None →
    eligible (list_of_phase (row_of lock k).phase) lock.rows ≡ false → ResumeReady lock k
resume_at lock k list is none not_eligible =
    record {
      list = list;
      phase = is;
      free =
          holds_not lock list none (ap (λ p. eligible (list_of_phase p) lock.rows) (sym is) ∙ not_eligible);
    }

-- what the lock asks of a Resume
pub resume-ready : (lock : Lock) (rows : List SystemRow) (v : Seats) (k : ℕ) → seats_of lock rows ≡ v →
    Kept lock rows → resume_guard v k ≡ None → ResumeReady lock k
resume-ready lock rows v k view kept passed =
    let f = resume-at (seats_of lock rows) k kept.1 (subst (λ x. resume_guard x k ≡ None) (sym view) passed) in
    elim f.0 [
      | inl g ↦ resume_at lock k 1 (ap (λ (r : Row). r.phase) g.row) f.1.0 f.1.1
      | inr g ↦ resume_at lock k 3 (ap (λ (r : Row). r.phase) g.row) f.1.0 f.1.1
    ]

-- a seat that waits after a release is not calm
pub releasing-calm : (p : Phase) (list : ℕ) → p ≡ Releasing list → p ≢ Calm
releasing-calm p list is same = true≢false (sym (ap is_calm same) ∙ ap is_calm is)

-- the fields after a Resume
pub resume-after : (lock lock' : Lock) (rows rows' : List SystemRow) (v : Seats) (k : ℕ) (m : Marks) →
    seats_of lock rows ≡ v → Kept lock rows → k < length v.lock.rows → resume_guard v k ≡ None → m ≡ mark v k
    → lock' ≡ changed_at lock k (restored) → rows' ≡ set rows k (copied lock' k m) → Kept lock' rows'
    × (seats_of lock' rows' ≡ after_resume v k)
resume-after lock lock' rows rows' v k m view kept below passed marks is put =
    after lock lock' rows rows' k m (restored (row v k)) v (after_resume v k) view kept.0 below
    (record { rows = refl; marks = same_marks v k ∙ ap (λ x. set v.marks k x) (sym marks) })
    (tidy-resume v k (subst IsTidy view kept.1) below passed)
    (is ∙ ap (λ (x : Seats). changed_at x.lock k (restored)) view) put

-- BEGIN AND END

-- the fields after a Begin
pub begin-after : (lock : Lock) (rows rows' : List SystemRow) (v : Seats) (k : ℕ) (m : Marks) (place : ℕ) →
    seats_of lock rows ≡ v → Kept lock rows → k < length v.lock.rows → begin_guard v k ≡ None → m ≡ mark v k
    → rows' ≡ set rows k (copied lock k (record m { running = Some place })) → Kept lock rows'
    × (seats_of lock rows' ≡ after_begin v k place)
begin-after lock rows rows' v k m place view kept below passed marks put =
    after lock lock rows rows' k (record m { running = Some place }) (row v k) v (after_begin v k place) view kept.0
    below
    (record {
      rows = same_rows v k;
      marks = ap (λ (x : Marks). set v.marks k (record x { running = Some place }))
          (sym marks);
    })
    (tidy-begin v k place (subst IsTidy view kept.1) below passed) (ap (λ (x : Seats). x.lock) view) put

-- the fields after an End
pub end-after : (lock : Lock) (rows rows' : List SystemRow) (v : Seats) (k : ℕ) (m : Marks) →
    seats_of lock rows ≡ v → Kept lock rows → k < length v.lock.rows → end_guard v k ≡ None → m ≡ mark v k
    → rows' ≡ set rows k (copied lock k (record m { running = None })) → Kept lock rows'
    × (seats_of lock rows' ≡ after_end v k)
end-after lock rows rows' v k m view kept below passed marks put =
    after lock lock rows rows' k (record m { running = None }) (row v k) v (after_end v k) view kept.0 below
    (record {
      rows = same_rows v k;
      marks = ap (λ (x : Marks). set v.marks k (record x { running = None }))
          (sym marks);
    })
    (tidy-end v k (subst IsTidy view kept.1) below passed) (ap (λ (x : Seats). x.lock) view) put
