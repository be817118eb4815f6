-- What the shapes of the seats tell of exclusion.
use Rattle.std.proofs.Common.{◌≡◌, ℕ, zero, suc, ◌<◌, ◌⊎◌, inl, inr, List, [], ◌∷◌, Bool, true, false, not, ◌&&◌}
use Rattle.std.proofs.Common.{if◌then◌else◌, Option, Some, None, is_some, refl, sym, ap, ◌∙◌, subst, arith}
use Rattle.std.proofs.lemmas.Bool.{true≢false, or_from, le-ltb}
use Rattle.std.specs.List.{list_any}
use Rattle.share_lock.specs.declared.seat.Row.{Row}
use Rattle.share_lock.specs.declared.seat.Phase.TheVariants.{Seeking, Releasing}
use Rattle.share_lock.specs.Rows.{row_at, holds_shares, waits_without, another, another_exclusive, busy_exclusive}
use Rattle.system_seats.specs.declared.guard.Guard.TheVariants.{BusyExclusive, WrongWant}
use Rattle.system_seats.specs.declared.guard.Purpose.TheVariants.{Load as For-Load, Unload as For-Unload}
use Rattle.system_seats.specs.Seats.{Seats, row, mark, runs_at, is_owner, is_calm, purpose_bit}
use Rattle.system_seats.specs.Guards.{◌when◌else◌, own_seek, seeks_this, take_guard}
use Rattle.system_seats.specs.Shapes.{Shape, Rests, Shares, Runs, Yields, SeeksLoad, SeeksUnload, Loads, Unloads}
use Rattle.system_seats.specs.Shapes.{LeavesLoad, LeavesUnload, HasShape, IsTidy, shape_row, shape_runs, shape_section}
use Rattle.system_seats.specs.Shapes.{shape_owns}
use Rattle.system_seats.proofs.Events.{none_of}
use Rattle.system_laws.specs.Lawful.{IsExclusive}

-- SHAPE BY SHAPE

admitting : (sh : Shape) → waits_without 0 (shape_row sh) ≡ false
admitting Rests = refl
admitting Shares = refl
admitting Runs = refl
admitting Yields = refl
admitting SeeksLoad = refl
admitting SeeksUnload = refl
admitting Loads = refl
admitting Unloads = refl
admitting LeavesLoad = refl
admitting LeavesUnload = refl

holding : (sh : Shape) → shape_runs sh ≡ true → (0 < (shape_row sh).shares) ⊎ (waits_without 1 (shape_row sh) ≡ true)
holding Rests runs = absurd (true≢false (sym runs))
holding Shares runs = absurd (true≢false (sym runs))
holding Runs runs = inl (omega arith)
holding Yields runs = inr refl
holding SeeksLoad runs = inr refl
holding SeeksUnload runs = absurd (true≢false (sym runs))
holding Loads runs = inl (omega arith)
holding Unloads runs = absurd (true≢false (sym runs))
holding LeavesLoad runs = inr refl
holding LeavesUnload runs = absurd (true≢false (sym runs))

showing : (sh : Shape) → shape_owns sh ≡ (is_calm (shape_row sh).phase && shape_section sh)
showing Rests = refl
showing Shares = refl
showing Runs = refl
showing Yields = refl
showing SeeksLoad = refl
showing SeeksUnload = refl
showing Loads = refl
showing Unloads = refl
showing LeavesLoad = refl
showing LeavesUnload = refl

seeking_for : (sh : Shape) (purpose : ℕ) → (shape_row sh).phase ≡ Seeking purpose →
    (shape_section sh ≡ true) × (purpose ≡ purpose_bit (if shape_runs sh then For-Load else For-Unload))
seeking_for Rests purpose is = absurd (cc)
seeking_for Shares purpose is = absurd (cc)
seeking_for Runs purpose is = absurd (cc)
seeking_for Yields purpose is = absurd (cc)
seeking_for SeeksLoad purpose is = (refl, cc)
seeking_for SeeksUnload purpose is = (refl, cc)
seeking_for Loads purpose is = absurd (cc)
seeking_for Unloads purpose is = absurd (cc)
seeking_for LeavesLoad purpose is = absurd (cc)
seeking_for LeavesUnload purpose is = absurd (cc)

leaving : (sh : Shape) (list : ℕ) → (shape_row sh).phase ≡ Releasing list → shape_section sh ≡ false
leaving Rests list is = refl
leaving Shares list is = refl
leaving Runs list is = refl
leaving Yields list is = refl
leaving SeeksLoad list is = absurd (cc)
leaving SeeksUnload list is = absurd (cc)
leaving Loads list is = absurd (cc)
leaving Unloads list is = absurd (cc)
leaving LeavesLoad list is = refl
leaving LeavesUnload list is = refl

-- FOR EACH SEAT

some_of : (o : Option ℕ) → is_some o ≡ false → o ≡ None
some_of None is = refl
some_of (Some n) is = absurd (true≢false is)

-- what the seats keep tells of exclusion
pub tidy-exclusive : (s : Seats) → IsTidy s → IsExclusive s
tidy-exclusive s tidy = record {
  alone = tidy.alone;
  holds_on = λ k runs.
      let h : HasShape (row s k) (mark s k) (is_owner s k) = tidy.shapes k in
      subst (λ r. (0 < r.shares) ⊎ (waits_without 1 r ≡ true)) (sym h.fits.row)
      (holding h.shape (sym h.fits.running ∙ runs));
  quiet = λ owner k is idle. ap is_some (tidy.quiet owner k is (none_of _ idle));
  admits_loads = λ k.
      let h : HasShape (row s k) (mark s k) (is_owner s k) = tidy.shapes k in
      ap (waits_without 0) h.fits.row ∙ admitting h.shape;
  shows = λ k.
      let h : HasShape (row s k) (mark s k) (is_owner s k) = tidy.shapes k in
      h.fits.owner ∙ (showing h.shape
      ∙ sym (λ i. is_calm (h.fits.row i).phase && h.fits.section i));
  seeks = λ k purpose is.
      let h : HasShape (row s k) (mark s k) (is_owner s k) = tidy.shapes k in
      let at : (shape_section h.shape ≡ true)
      × (purpose ≡ purpose_bit (if shape_runs h.shape then For-Load else For-Unload)) =
      seeking_for h.shape purpose (ap (λ (r : Row). r.phase) (sym h.fits.row) ∙ is) in (
        h.fits.section ∙ at.0,
        at.1 ∙ ap (λ b. purpose_bit (if b then For-Load else For-Unload)) (sym h.fits.running),
      );
  leaves = λ k list is.
      let h : HasShape (row s k) (mark s k) (is_owner s k) = tidy.shapes k in
      none_of _ (h.fits.section ∙ leaving h.shape list (ap (λ (r : Row). r.phase) (sym h.fits.row) ∙ is));
}

-- WHO MAY TAKE

any_false : (test : Row → Bool) (rows : List Row) → ((j : ℕ) → test (row_at rows j) ≡ false) →
    list_any test rows ≡ false
any_false test [] h = refl
any_false test (r ∷ rs) h = or_from (test r) (list_any test rs) (h zero) (any_false test rs (λ j. h (suc j)))

none_other : (test : Row → Bool) (rows : List Row) (k : ℕ) → ((j : ℕ) → test (row_at rows j) ≡ false) →
    another test rows k ≡ false
none_other test [] k h = refl
none_other test (r ∷ rs) zero h = any_false test rs (λ j. h (suc j))
none_other test (r ∷ rs) (suc k) h =
    or_from (test r) (another test rs k) (h zero) (none_other test rs k (λ j. h (suc j)))

-- where no seat is exclusive and none has a share, each seat that seeks a load may take it
pub tidy-may_take : (s : Seats) (k : ℕ) (known : Bool) → IsTidy s → s.lock.exclusive ≡ None →
    ((j : ℕ) → (row s j).shares ≡ 0) → (row s k).phase ≡ Seeking 0 → take_guard s k For-Load known true ≡ None
tidy-may_take s k known tidy none idle seeks =
    let waits : another (waits_without 0) s.lock.rows k ≡ false =
    none_other (waits_without 0) s.lock.rows k (tidy-exclusive s tidy).admits_loads in
    let shares : another holds_shares s.lock.rows k ≡ false =
    none_other holds_shares s.lock.rows k (λ j.
    let zero_of : (row s j).shares ≡ 0 = idle j in le-ltb 0 (row s j).shares (omega arith)) in
    let other : another_exclusive s.lock.exclusive k ≡ false = ap (λ e. another_exclusive e k) none in
    let free : busy_exclusive s.lock.rows s.lock.exclusive k 0 ≡ false =
    or_from _ _ (or_from _ _ other waits) shares in
    ap (λ p. if is_calm p
    then own_seek For-Load (row s k) (runs_at s k) (is_owner s k) known
    (BusyExclusive when busy_exclusive s.lock.rows s.lock.exclusive k 0 else None)
    else (WrongWant when not (seeks_this For-Load true p)
    else BusyExclusive when busy_exclusive s.lock.rows s.lock.exclusive k 0 else None)) seeks
    ∙ ap (λ b. BusyExclusive when b else None) free
