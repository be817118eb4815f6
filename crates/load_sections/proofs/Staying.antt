-- A load section stays, whatever the other seats do.
use Rattle.std.proofs.Common.{◌≡◌, ◌≢◌, ℕ, List, ◌∷◌, [], ◌++◌, Option, Some, None, Bool, true, false, refl}
use Rattle.std.proofs.Common.{sym, ap, ◌∙◌, subst}
use Rattle.std.specs.Prelude.{◌&&◌, not, is_some, if◌then◌else◌}
use Rattle.std.proofs.lemmas.Bool.{not-false, and_parts, or_parts, true≢false}
use Rattle.std.proofs.lemmas.Bool.Decides.{nat_tests}
use Rattle.std.proofs.Common.{arith}
use Rattle.by_need.specs.Rounds.{Rules}
use Rattle.by_need_loader.specs.Progress.{Progress, IsOn}
use Rattle.by_need_loader.specs.Runs.{Runs}
use Rattle.share_lock.specs.declared.seat.Row.{Row}
use Rattle.share_lock.specs.Rows.{holds_shares, another_exclusive, busy_exclusive}
use Rattle.share_lock.specs.Lock.{owns}
use Rattle.system_seats.specs.declared.guard.Guard.{Guard}
use Rattle.system_seats.specs.declared.guard.Guard.TheVariants.{NotLoading, BusyExclusive, NoShare, Exclusive}
use Rattle.system_seats.specs.declared.guard.Purpose.{Purpose}
use Rattle.system_seats.specs.declared.guard.Purpose.TheVariants as purpose
use Rattle.system_seats.specs.declared.guard.Marks.{Marks}
use Rattle.system_seats.specs.Seats.{Seats, mark, row, runs_at, is_owner, is_calm, purpose_bit}
use Rattle.system_seats.specs.Guards.{◌when◌else◌, own_want, own_seek, own_take}
use Rattle.system_seats.proofs.From.{guard_false}
use Rattle.system_events.specs.declared.event.Cause.TheVariants.{Memory}
use Rattle.system_events.specs.declared.event.Entry.{Entry}
use Rattle.system_events.specs.declared.event.Kept.{Kept}
use Rattle.system_events.specs.declared.event.Kept.TheVariants.{Take, Release}
use Rattle.system_events.specs.declared.event.Kept.TheVariants.{Define, Reload, Refuse}
use Rattle.system_events.specs.declared.event.Want.TheVariants.{Load as Load-Want}
use Rattle.system_events.specs.Facts.{Facts}
use Rattle.system_events.specs.State.{State, next_place, want_at, purpose_of, in_table, is_wanted}
use Rattle.system_events.specs.Guards.{guard_of}
use Rattle.system_events.specs.Steps.{seats_after, table_after}
use Rattle.system_events.specs.Legal.{IsStep}
use Rattle.system_laws.proofs.Others.{marks_stay}
use Rattle.system_laws.proofs.Tidy.{first_none}
use Rattle.system_core.specs.Tables.{lookup}
use Rattle.load_sections.specs.Sections.{IsLoading}
use Rattle.load_sections.proofs.Defining.{want_grows}

-- GUARDS

if_last : (b : Bool) (p q o : Option Guard) → (p ≡ None → o ≡ None) → (q ≡ None → o ≡ None) →
    (if b then p else q) ≡ None → o ≡ None
if_last true p q o yes_is no_is is = yes_is is
if_last false p q o yes_is no_is is = no_is is

want_last : (what : Purpose) (runs known : Bool) (o : Option Guard) → own_want what runs known o ≡ None → o ≡ None
want_last purpose.Load runs known o is = (guard_false known _ o (guard_false _ _ _ is).1).1
want_last purpose.Unload runs known o is = (guard_false _ _ o is).1

seek_last : (what : Purpose) (r : Row) (runs owner known : Bool) (o : Option Guard) →
    own_seek what r runs owner known o ≡ None → o ≡ None
seek_last what r runs owner known o is =
    let shares = guard_false (not (holds_shares r)) NoShare (Exclusive when owner else own_want what runs known o) is in
    want_last what runs known o (guard_false owner Exclusive (own_want what runs known o) shares.1).1

-- where a Take passes, the last of its guards does
take_last : (what : Purpose) (r : Row) (runs owner known wanted : Bool) (o : Option Guard) →
    own_take what r runs owner known wanted o ≡ None → o ≡ None
take_last what r runs owner known wanted o =
    if_last (is_calm r.phase) _ _ o (seek_last what r runs owner known o) (λ is. (guard_false _ _ o is).1)

-- OWNERS

-- at most one seat is exclusive
one_owner : (e : Option ℕ) (j k : ℕ) → owns e j ≡ true → owns e k ≡ true → j ≡ k
one_owner None j k first second = absurd (true≢false (sym first))
one_owner (Some owner) j k first second = grind (arith, nat_tests)

-- where a seat is exclusive, another finds another exclusive
owner_is_another : (e : Option ℕ) (j k : ℕ) → owns e k ≡ true → another_exclusive e j ≡ false → k ≡ j
owner_is_another None j k owner none = absurd (true≢false (sym owner))
owner_is_another (Some own) j k owner none = grind (arith, nat_tests)

module _ {M T V P Q R F : Type 0} (f : Facts T V P Q R F) (s : State M T V P Q R F) (j k : ℕ) (other : k ≢ j)
    (owner : is_owner s.seats k ≡ true) where
  -- an exclusive seat stays so, whatever another does
  owner_stays : (kept : Kept M T V P Q R F) → guard_of f s j kept ≡ None →
      is_owner (seats_after s.seats (next_place s) j kept) k ≡ true
  owner_stays (Take want) passes =
      let free : busy_exclusive s.seats.lock.rows s.seats.lock.exclusive j (purpose_bit (purpose_of want)) ≡ false =
      (guard_false _ BusyExclusive None (take_last (purpose_of want) (row s.seats j) (runs_at s.seats j)
      (is_owner s.seats j) (in_table f s want) (is_wanted f s j want) _ passes)).0 in
      let alone : another_exclusive s.seats.lock.exclusive j ≡ false = (or_parts _ _ (or_parts _ _ free).0).0 in
      absurd (other (owner_is_another s.seats.lock.exclusive j k owner alone))
  owner_stays Release passes =
      absurd (other (one_owner s.seats.lock.exclusive k j owner (not-false _ (guard_false _ _ _ passes).0)))
  owner_stays (Refuse Memory) passes = owner
  owner_stays _ passes = owner

  -- and the table with it
  table_stays : (kept : Kept M T V P Q R F) → guard_of f s j kept ≡ None →
      table_after f s.counts.program s.table kept ≡ s.table
  table_stays (Define task) passes =
      let both = and_parts (is_owner s.seats j) (runs_at s.seats j)
      (not-false _ (guard_false _ _ _ (first_none _ _ passes)).0) in
      absurd (other (one_owner s.seats.lock.exclusive k j owner both.0))
  table_stays (Reload program) passes =
      let both = and_parts (is_owner s.seats j) (not (runs_at s.seats j))
      (not-false _ (guard_false _ _ _ (first_none _ _ passes)).0) in
      absurd (other (one_owner s.seats.lock.exclusive k j owner both.0))
  table_stays _ passes = refl

module _ {M T V P Q R F E O G W N : Type 0} (f : Facts T V P Q R F) (r : Rules T V E O) (m : Runs T V E O G W N)
    (sought : T) (at_first : T → Option V) where
  -- a load section stays, whatever step another seat makes
  pub loading_stays : (old new : State M T V P Q R F) (entry : Entry M T V P Q R F) (k : ℕ) (made : List (T × V))
      (loader : Progress T G W N) → IsStep f old entry new → k ≢ entry.seat →
      IsLoading f r m sought at_first old k made loader → IsLoading f r m sought at_first new k made loader
  loading_stays old new entry k made loader step other loading =
      let both : (is_owner old.seats k ≡ true) × (runs_at old.seats k ≡ true) =
      and_parts (is_owner old.seats k) (runs_at old.seats k)
      (not-false _ (guard_false _ _ _ loading.passes).0) in
      let after : Seats = seats_after old.seats (next_place old) entry.seat entry.kept in
      let marks : mark after k ≡ mark old.seats k =
      marks_stay old.seats (next_place old) entry.seat entry.kept k other in
      let owner : is_owner after k ≡ true = owner_stays f old entry.seat k other both.0 entry.kept step.passes in
      let runs : runs_at after k ≡ true = ap (λ (x : Marks). is_some x.running) marks ∙ both.1 in
      let table : table_after f old.counts.program old.table entry.kept ≡ old.table =
      table_stays f old entry.seat k other both.0 entry.kept step.passes in
      subst (λ (s : State M T V P Q R F). IsLoading f r m sought at_first s k made loader) (sym step.is) (record {
        section = ap (λ (x : Marks). want_at (old.history
            ++ (record { seat = entry.seat; kept = entry.kept }) ∷ []) x.section) marks
            ∙ want_grows old.history _ (mark old.seats k).section (Load-Want sought) loading.section;
        passes = ap (λ b. NotLoading when not b else None) (ap (λ b. b && runs_at after k) owner ∙ runs);
        ready = loading.ready;
        on = subst (λ (t : List (T × V)). IsOn r m (record {
          wanted = sought;
          at_first = at_first;
          made = made;
          table = λ task. lookup f task t;
        }) loader) (sym table) loading.on;
      })
