-- What every lock keeps, after each kind of change.
use Rattle.std.proofs.Common.{◌≡◌, ◌≢◌, ℕ, ◌+◌, ◌<◌, ◌≤◌, ◌==◌, ◌⊎◌, inl, inr, Bool, true, false, not, ◌||◌}
use Rattle.std.proofs.Common.{if◌then◌else◌, List, [], ◌∷◌, ◌++◌, length, length-append, set, slice_get, slice_set}
use Rattle.std.proofs.Common.{Option, Some, None, is_some, refl, sym, ap, ◌∙◌, subst, arith, length-set}
use Rattle.std.proofs.Common.{get_or-set_same, get_or-set_other}
use Rattle.std.proofs.lemmas.Bool.{true≢false, or_parts, ne_eqb, eqb-true, eqb-false, cases_eq, lt-ltb, le-ltb}
use Rattle.std.proofs.lemmas.Bool.{ltb-false, not-false, cond_both}
use Rattle.std.proofs.lemmas.List.Elements.{All-set}
use Rattle.std.proofs.lemmas.Option.{slice_get-get_or, none-some, same_Some}
use Rattle.share_lock.specs.declared.seat.Phase.{Phase}
use Rattle.share_lock.specs.declared.seat.Phase.TheVariants.{Calm, Seeking, Releasing}
use Rattle.share_lock.specs.declared.seat.Row.{Row}
use Rattle.share_lock.specs.declared.seat.Wait.{Wait}
use Rattle.share_lock.specs.Rows.{resting_row, row_at, holds_shares, waits_without, another, another_exclusive}
use Rattle.share_lock.specs.Rows.{busy_share}
use Rattle.share_lock.specs.Rows.{busy_exclusive, yielding}
use Rattle.share_lock.specs.Lock.{Lock, owns, refuses_share, with_share, without_share, wait_for, seeking, yielded}
use Rattle.share_lock.specs.Lock.{restored, FitsPhase, IsPlausible, IsAlone, FitsOwner, IsSound}
use Rattle.share_lock.proofs.OtherSeats.{another-set_same, another-set_false, another_false_at}

-- the row may stand for the seat whoever is exclusive: it is calm if its own seat is, and has no shares if another is
abbrev pub Suits : Option ℕ → ℕ → Row → Type 0
Suits None seat row = Unit {0}
Suits (Some owner) seat row = ((owner ≡ seat) × (row.phase ≡ Calm)) ⊎ ((owner ≢ seat) × (holds_shares row ≡ false))

fits-set : (exclusive : Option ℕ) (rows : List Row) (depth seat : ℕ) (row : Row) → seat < length rows →
    Suits exclusive seat row → FitsOwner exclusive rows depth → FitsOwner exclusive (set rows seat row) depth
fits-set None rows depth seat row below suits fits = fits
fits-set (Some owner) rows depth seat row below (inl own) fits = record {
  seated = let same : length (set rows seat row) ≡ length rows = length-set rows seat row in let before : owner <
      length rows = fits.seated in omega arith;
  calm = subst (λ k. (row_at (set rows seat row) k).phase ≡ Calm) (sym own.0)
      (ap (λ (r : Row). r.phase) (get_or-set_same rows seat row resting_row below) ∙ own.1);
  deep = fits.deep;
  alone = subst (λ k. another holds_shares (set rows seat row) k ≡ false) (sym own.0)
      (another-set_same holds_shares rows seat row ∙ subst (λ k. another holds_shares rows k ≡ false) own.0 fits.alone);
}
fits-set (Some owner) rows depth seat row below (inr other) fits = record {
  seated = let same : length (set rows seat row) ≡ length rows = length-set rows seat row in let before : owner <
      length rows = fits.seated in omega arith;
  calm = ap (λ (r : Row). r.phase) (get_or-set_other rows seat owner row resting_row other.0) ∙ fits.calm;
  deep = fits.deep;
  alone = another-set_false holds_shares rows owner seat row other.1 fits.alone;
}

-- one row changed
pub IsSound-set : (lock : Lock) (seat : ℕ) (row : Row) → IsSound lock → seat < length lock.rows → IsPlausible row →
    Suits lock.exclusive seat row → IsSound (record lock { rows = set lock.rows seat row })
IsSound-set lock seat row sound below plausible suits = record {
  seats = let same : length (set lock.rows seat row) ≡ length lock.rows = length-set lock.rows seat row in
      (let few : (0 < length lock.rows) × (length lock.rows ≤ 64) = sound.seats in (omega arith, omega arith));
  rows = All-set IsPlausible lock.rows seat row plausible sound.rows;
  owner = fits-set lock.exclusive lock.rows lock.depth seat row below suits sound.owner;
}

calm-plausible : (row : Row) → row.phase ≡ Calm → IsPlausible row
calm-plausible row calm = subst (λ p. FitsPhase p row) (sym calm) tt

plausible_at : (lock : Lock) → IsSound lock → (seat : ℕ) → seat < length lock.rows → IsPlausible (row_at lock.rows seat)
plausible_at lock sound seat below = sound.rows seat resting_row below

-- where another seat is exclusive, a seat has no shares
others_have_none : (rows : List Row) (owner depth seat : ℕ) → IsAlone rows owner depth → owner ≢ seat →
    seat < length rows → holds_shares (row_at rows seat) ≡ false
others_have_none rows owner depth seat fits other below =
    another_false_at holds_shares rows owner fits.alone seat (row_at rows seat) (λ same. other (sym same))
    (slice_get-get_or rows seat resting_row below)

-- START SHARING

refused_elsewhere : (holds own waits more : Bool) → holds ≡ false → own ≡ false →
    (if holds || own then false else if waits then not own else (not own || more)) ≡ true
refused_elsewhere true own waits more h o = absurd (true≢false h)
refused_elsewhere false true waits more h o = absurd (true≢false o)
refused_elsewhere false false true more h o = refl
refused_elsewhere false false false more h o = refl

share_suits : (exclusive : Option ℕ) (rows : List Row) (depth seat : ℕ) → FitsOwner exclusive rows depth →
    seat < length rows → (row_at rows seat).phase ≡ Calm → refuses_share rows exclusive seat ≡ false
    → Suits exclusive seat (with_share (row_at rows seat))
share_suits None rows depth seat fits below calm allowed = tt
share_suits (Some owner) rows depth seat fits below calm allowed =
    elim (cases_eq owner seat) [
      | inl same ↦ inl (same, calm)
      | inr other ↦
          absurd (true≢false (sym (refused_elsewhere (holds_shares (row_at rows seat)) (owner == seat)
          (is_some (row_at rows seat).wait) (another (waits_without 7) rows seat)
          (others_have_none rows owner depth seat fits other below) (ne_eqb owner seat other)) ∙ allowed))
    ]

-- a seat takes one share more
pub IsSound-share : (lock value : Lock) (seat : ℕ) (rows : List Row) → lock ≡ value → IsSound lock →
    seat < length value.rows → (row_at value.rows seat).phase ≡ Calm
    → refuses_share value.rows value.exclusive seat ≡ false →
    rows ≡ slice_set lock.rows seat (with_share (row_at lock.rows seat)) → IsSound (record lock { rows = rows })
IsSound-share lock value seat rows view sound within calm allowed changed =
    let below : seat < length lock.rows = subst (λ (l : Lock). seat < length l.rows) (sym view) within in
    let calm_here : (row_at lock.rows seat).phase ≡ Calm = subst (λ (l : Lock). (row_at l.rows seat).phase ≡ Calm)
    (sym view) calm in
    let allowed_here : refuses_share lock.rows lock.exclusive seat ≡ false =
    subst (λ (l : Lock). refuses_share l.rows l.exclusive seat ≡ false) (sym view) allowed in
    subst (λ rs. IsSound (record lock { rows = rs })) (sym changed)
    (IsSound-set lock seat (with_share (row_at lock.rows seat)) sound below (calm-plausible _ calm_here)
    (share_suits lock.exclusive lock.rows lock.depth seat sound.owner below calm_here allowed_here))

-- STOP SHARING

sharer_is_calm : (phase : Phase) (row : Row) → FitsPhase phase row → 0 < row.shares → phase ≡ Calm
sharer_is_calm Calm row fits some = refl
sharer_is_calm (Seeking purpose) row fits some = let none : row.shares ≡ 0 = fits.1 in absurd (omega arith)
sharer_is_calm (Releasing list) row fits some = let none : row.shares ≡ 0 = fits.0 in absurd (omega arith)

unshare_suits : (exclusive : Option ℕ) (rows : List Row) (depth seat : ℕ) → FitsOwner exclusive rows depth →
    seat < length rows → (row_at rows seat).phase ≡ Calm → 0 < (row_at rows seat).shares
    → Suits exclusive seat (without_share (row_at rows seat))
unshare_suits None rows depth seat fits below calm some = tt
unshare_suits (Some owner) rows depth seat fits below calm some =
    elim (cases_eq owner seat) [
      | inl same ↦ inl (same, calm)
      | inr other ↦ absurd (true≢false (sym (lt-ltb 0 (row_at rows seat).shares some)
          ∙ others_have_none rows owner depth seat fits other below))
    ]

-- a seat gives one share back
pub IsSound-unshare : (lock value : Lock) (seat : ℕ) (rows : List Row) → lock ≡ value → IsSound lock →
    seat < length value.rows → 0 < (row_at value.rows seat).shares
    → rows ≡ slice_set lock.rows seat (without_share (row_at lock.rows seat)) → IsSound (record lock { rows = rows })
IsSound-unshare lock value seat rows view sound within some changed =
    let below : seat < length lock.rows = subst (λ (l : Lock). seat < length l.rows) (sym view) within in
    let some_here : 0 < (row_at lock.rows seat).shares = subst (λ (l : Lock). 0 < (row_at l.rows seat).shares)
    (sym view) some in
    let calm : (row_at lock.rows seat).phase ≡ Calm =
    sharer_is_calm _ _ (plausible_at lock sound seat below) some_here in
    subst (λ rs. IsSound (record lock { rows = rs })) (sym changed)
    (IsSound-set lock seat (without_share (row_at lock.rows seat)) sound below (calm-plausible _ calm)
    (unshare_suits lock.exclusive lock.rows lock.depth seat sound.owner below calm some_here))

-- YIELDING

-- it leaves the seat without shares, and with something to take back
yielding-shares : (row : Row) (wait : Wait) (blocks : Bool) → (yielding row wait blocks).shares ≡ 0
yielding-shares row wait blocks = cond_both (row.shares == 0) _ _ (λ (r : Row). r.shares ≡ 0)
    (λ is. eqb-true row.shares 0 is) (λ is. refl)

longer : {A : Type 0} (xs : List A) (x : A) → 0 < length (xs ++ x ∷ [])
longer xs x = let more : length (xs ++ x ∷ []) ≡ length xs + 1 = length-append xs (x ∷ []) in omega arith

yielding-yields : (row : Row) (wait : Wait) (blocks : Bool) → 0 < length (yielding row wait blocks).yields
yielding-yields row wait blocks = cond_both (row.shares == 0) _ _ (λ (r : Row). 0 < length r.yields)
    (λ is. longer row.yields _) (λ is. longer row.yields _)

-- without shares a row suits a seat that isn't exclusive
idle_suits : (exclusive : Option ℕ) (seat : ℕ) (row : Row) → owns exclusive seat ≡ false → row.shares ≡ 0 →
    Suits exclusive seat row
idle_suits None seat row apart none = tt
idle_suits (Some owner) seat row apart none = inr (eqb-false owner seat apart, le-ltb 0 row.shares (omega arith))

IsSound-yield : (lock value : Lock) (seat : ℕ) (row : Row) (rows : List Row) → lock ≡ value → IsSound lock →
    seat < length value.rows → owns value.exclusive seat ≡ false
    → row.shares ≡ 0 → IsPlausible row → rows ≡ slice_set lock.rows seat row → IsSound (record lock { rows = rows })
IsSound-yield lock value seat row rows view sound within apart none plausible changed =
    let below : seat < length lock.rows = subst (λ (l : Lock). seat < length l.rows) (sym view) within in
    let apart_here : owns lock.exclusive seat ≡ false = subst (λ (l : Lock). owns l.exclusive seat ≡ false)
    (sym view) apart in
    subst (λ rs. IsSound (record lock { rows = rs })) (sym changed)
    (IsSound-set lock seat row sound below plausible (idle_suits lock.exclusive seat row apart_here none))

-- a seat yields and seeks to be exclusive
pub IsSound-seek : (lock value : Lock) (seat purpose list : ℕ) (rows : List Row) → lock ≡ value → IsSound lock →
    seat < length value.rows → owns value.exclusive seat ≡ false
    → purpose ≤ 6 → rows ≡ slice_set lock.rows seat (seeking purpose list (row_at lock.rows seat)) →
    IsSound (record lock { rows = rows })
IsSound-seek lock value seat purpose list rows view sound within apart few changed =
    let row = row_at lock.rows seat in
    let wait = wait_for (Some purpose) list in
    IsSound-yield lock value seat (seeking purpose list row) rows view sound within apart
    (yielding-shares row wait true)
    (few, yielding-shares row wait true, yielding-yields row wait true) changed

-- a seat yields and stays calm
pub IsSound-yielded : (lock value : Lock) (seat list : ℕ) (rows : List Row) → lock ≡ value → IsSound lock →
    seat < length value.rows → owns value.exclusive seat ≡ false
    → rows ≡ slice_set lock.rows seat (yielded list (row_at lock.rows seat)) → IsSound (record lock { rows = rows })
IsSound-yielded lock value seat list rows view sound within apart changed =
    let row = row_at lock.rows seat in
    let wait = wait_for None list in
    IsSound-yield lock value seat (yielded list row) rows view sound within apart (yielding-shares row wait false) tt
    changed

-- TAKING BACK

restored_suits : (exclusive : Option ℕ) (seat : ℕ) (row : Row) → another_exclusive exclusive seat ≡ false →
    row.phase ≡ Calm → Suits exclusive seat row
restored_suits None seat row free calm = tt
restored_suits (Some owner) seat row free calm = inl (eqb-true owner seat (not-false (owner == seat) free), calm)

-- a seat takes back what it put aside last
pub IsSound-restore : (lock value : Lock) (seat : ℕ) (rows : List Row) → lock ≡ value → IsSound lock →
    seat < length value.rows → another_exclusive value.exclusive seat ≡ false
    → rows ≡ slice_set lock.rows seat (restored (row_at lock.rows seat)) → IsSound (record lock { rows = rows })
IsSound-restore lock value seat rows view sound within free changed =
    let below : seat < length lock.rows = subst (λ (l : Lock). seat < length l.rows) (sym view) within in
    let free_here : another_exclusive lock.exclusive seat ≡ false =
    subst (λ (l : Lock). another_exclusive l.exclusive seat ≡ false) (sym view) free in
    subst (λ rs. IsSound (record lock { rows = rs })) (sym changed)
    (IsSound-set lock seat (restored (row_at lock.rows seat)) sound below tt
    (restored_suits lock.exclusive seat _ free_here refl))

-- a seat that sought becomes exclusive
pub IsSound-take : (lock value : Lock) (seat purpose : ℕ) (rows : List Row) → lock ≡ value → IsSound lock →
    seat < length value.rows → busy_exclusive value.rows value.exclusive seat purpose ≡ false
    → rows ≡ slice_set lock.rows seat (restored (row_at lock.rows seat)) →
    IsSound (record { rows = rows; exclusive = Some seat; depth = 1 })
IsSound-take lock value seat purpose rows view sound within free changed =
    let below : seat < length lock.rows = subst (λ (l : Lock). seat < length l.rows) (sym view) within in
    let free_here : busy_exclusive lock.rows lock.exclusive seat purpose ≡ false =
    subst (λ (l : Lock). busy_exclusive l.rows l.exclusive seat purpose ≡ false) (sym view) free in
    let row = restored (row_at lock.rows seat) in
    let same : length (set lock.rows seat row) ≡ length lock.rows = length-set lock.rows seat row in
    let few : (0 < length lock.rows) × (length lock.rows ≤ 64) = sound.seats in
    subst (λ rs. IsSound (record { rows = rs; exclusive = Some seat; depth = 1 })) (sym changed) (record {
      seats = (omega arith, omega arith);
      rows = All-set IsPlausible lock.rows seat row tt sound.rows;
      owner = record {
        seated = omega arith;
        calm = ap (λ (r : Row). r.phase) (get_or-set_same lock.rows seat row resting_row below);
        deep = (omega arith, omega arith);
        alone = another-set_same holds_shares lock.rows seat row
            ∙ (or_parts (busy_share lock.rows lock.exclusive seat purpose) (another holds_shares lock.rows seat)
            free_here).1;
      };
    })

-- THE EXCLUSION LAW

alone_of : (exclusive : Option ℕ) (rows : List Row) (depth owner : ℕ) → FitsOwner exclusive rows depth →
    exclusive ≡ Some owner → IsAlone rows owner depth
alone_of None rows depth owner fits is = absurd (none-some owner is)
alone_of (Some holder) rows depth owner fits is = subst (λ k. IsAlone rows k depth) (same_Some holder owner is) fits

-- beside an exclusive seat no other seat has a share
pub exclusion : (lock : Lock) → IsSound lock → (owner seat : ℕ) (row : Row) → lock.exclusive ≡ Some owner →
    seat ≢ owner → slice_get lock.rows seat ≡ Some row → row.shares ≡ 0
exclusion lock sound owner seat row is other there =
    let fits : IsAlone lock.rows owner lock.depth = alone_of lock.exclusive lock.rows lock.depth owner sound.owner is in
    let none : row.shares ≤ 0 =
    ltb-false 0 row.shares (another_false_at holds_shares lock.rows owner fits.alone seat row other there) in
    omega arith
