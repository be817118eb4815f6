-- Which guards are true of which rows.
use Rattle.std.proofs.Common.{◌≡◌, ◌≢◌, ℕ, Bool, true, false, not, Option, Some, None, is_some, refl, sym, ap, ◌∙◌}
use Rattle.std.proofs.Common.{eq-eqb}
use Rattle.std.proofs.Common.{arith, if◌then◌else◌, inl, inr}
use Rattle.std.proofs.lemmas.Bool.{true≢false, cases_eq}
use Rattle.share_lock.specs.Rows.{busy_exclusive}
use Rattle.system_seats.specs.declared.table.SystemRow.{SystemRow}
use Rattle.system_seats.specs.declared.guard.Guard.{Guard}
use Rattle.system_seats.specs.declared.guard.Guard.TheVariants.{Exclusive, InTable, NotBusy, WrongWant, Running}
use Rattle.system_seats.specs.declared.guard.Guard.TheVariants.{BusyExclusive}
use Rattle.system_seats.specs.declared.guard.Purpose.TheVariants.{Load as For-Load, Unload as For-Unload}
use Rattle.share_lock.specs.Lock.{owns, releasing}
use Rattle.system_seats.specs.Shapes.{sharing}
use Rattle.system_seats.specs.Seats.{row, mark, is_owner, is_calm, purpose_list}
use Rattle.system_seats.specs.Guards.{◌when◌else◌, own_unshare, own_begin, own_end, own_take, own_seek, own_define}
use Rattle.system_seats.specs.Guards.{own_release, own_yield, own_reload}
use Rattle.system_laws.specs.Lawful.{IsExclusive}
use Rattle.system_events.specs.declared.event.Applied.{Applied}
use Rattle.system_events.specs.declared.event.Applied.TheVariants.{Done, Refused}
use Rattle.system_events.specs.declared.event.Event.{Event}
use Rattle.system_events.specs.declared.event.Cause.{Cause}
use Rattle.system_events.specs.declared.event.Cause.TheVariants.{Memory}
use Rattle.system_events.specs.declared.event.Kept.TheVariants.{Unshare, Yield, Seek, Take, Release, Define, Reload}
use Rattle.system_events.specs.declared.event.Kept.TheVariants.{Begin, End, Refuse}
use Rattle.system_events.specs.declared.event.Want.TheVariants.{Load, Unload}
use Rattle.system_events.specs.Facts.{Facts, SameIsEqual}
use Rattle.system_events.specs.State.{State, is_in, is_that, is_wanted, section_want}
use Rattle.system_events.specs.Guards.{◌orElse◌, guard_of, request_limits, reload_limits}
use Rattle.system_laws.proofs.Table.{same_self}
use Rattle.shop_base.specs.Rows.{seat_row, is_exclusive, calm_seat, sharing_seat, running_seat, seeking_seat}
use Rattle.shop_base.specs.Rows.{exclusive_seat, loading_seat, unloading_seat, leaving_seat, IsRunning, IsSeeking}
use Rattle.shop_base.specs.Rows.{IsLoading}
use Rattle.shop_base.specs.Acts.{next_row}
use Rattle.shop_base.proofs.OwnRows.{own_guard}

-- where an act isn't refused, no guard is true
pub done_passes : {M T V P Q R F : Type 0} {X : Guard → Type 0} (o : Option Guard) (r : Applied M T V P Q R F)
    (e : Event M T V P Q R F) → ((guard : Guard) → o ≡ Some guard → (r ≡ Refused guard e) × X guard) → r ≡ Done →
    o ≡ None
done_passes None r e refused done = refl
done_passes (Some guard) r e refused done = absurd (let is = (refused guard refl).0 in cc)

module _ {M T V P Q R F : Type 0} (f : Facts T V P Q R F) (s : State M T V P Q R F) (k : ℕ)
    (exclusive : IsExclusive s.seats) where
  -- a seat that shares and runs nothing may give the share back
  pub unshare_passes : seat_row s.seats k ≡ sharing_seat → guard_of f s k Unshare ≡ None
  unshare_passes is = own_guard (λ r runs owner. own_unshare r runs owner None) s.seats k sharing_seat exclusive is

  -- a seat that runs may end its request
  pub end_passes : (reply : R) → IsRunning (seat_row s.seats k) → guard_of f s k (End reply) ≡ None
  end_passes reply is =
      own_guard (λ r runs owner. own_end r runs owner None) s.seats k (running_seat is.0) exclusive is.1

  -- and it may be refused for want of memory
  pub abandon_passes : IsRunning (seat_row s.seats k) → guard_of f s k (Refuse Memory) ≡ None
  abandon_passes is =
      own_guard (λ r runs owner. own_end r runs owner None) s.seats k (running_seat is.0) exclusive is.1

  -- beside a seat that shares, and isn't exclusive itself, none is
  none_exclusive : (o : Option ℕ) → s.seats.lock.exclusive ≡ o → (row s.seats k).shares ≡ 1 →
      is_owner s.seats k ≡ false → s.seats.lock.exclusive ≡ None
  none_exclusive None is shares other = is
  none_exclusive (Some o) is shares other =
      let owns_it : is_owner s.seats o ≡ true = ap (λ e. owns e o) is ∙ eq-eqb o o refl in
      absurd (elim (cases_eq k o) [
        | inl same ↦ true≢false (sym (ap (λ j. is_owner s.seats j) same ∙ owns_it) ∙ other)
        | inr apart ↦
            let none : (row s.seats k).shares ≡ 0 = exclusive.alone o k owns_it apart in omega (arith, shares, none)
      ])

  -- what may keep a seat that shares from a request is a limit
  pub begin_limits : (request : Q) → seat_row s.seats k ≡ sharing_seat →
      guard_of f s k (Begin request) ≡ request_limits s.counts
  begin_limits request is =
      let none : s.seats.lock.exclusive ≡ None =
      none_exclusive s.seats.lock.exclusive refl (ap (λ (r : SystemRow). r.lock.shares) is)
      (exclusive.shows k ∙ ap is_exclusive is) in
      ap (λ g. g orElse request_limits s.counts)
      (own_guard (λ r runs owner. own_begin r runs owner (Exclusive when is_some s.seats.lock.exclusive else None))
      s.seats k sharing_seat exclusive is
      ∙ ap (λ e. Exclusive when is_some e else None) none)

  -- what may keep a seat that runs nothing from a refusal is a limit
  pub refuse_limits : (cause : Cause M T V P Q R F) → cause ≢ Memory → (mark s.seats k).running ≡ None →
      guard_of f s k (Refuse cause) ≡ request_limits s.counts
  refuse_limits Memory other is = absurd (other refl)
  refuse_limits _ other is = ap (λ o. Running when is_some o else request_limits s.counts) is

  -- A LOAD

  -- what may keep a seat that runs from a load of a task that the table lacks is the busy exclusive side
  pub take_load_guard : (task : T) → IsRunning (seat_row s.seats k) → is_in f task s.table ≡ false →
      guard_of f s k (Take (Load task))
      ≡ (BusyExclusive when busy_exclusive s.seats.lock.rows s.seats.lock.exclusive k 0 else None)
  take_load_guard task is new =
      own_guard (λ r runs owner. own_take For-Load r runs owner (is_in f task s.table) (is_wanted f s k (Load task))
      (BusyExclusive when busy_exclusive s.seats.lock.rows s.seats.lock.exclusive k 0 else None)) s.seats k
      (running_seat is.0) exclusive is.1
      ∙ ap (λ known. InTable when known else
      (BusyExclusive when busy_exclusive s.seats.lock.rows s.seats.lock.exclusive k 0 else None)) new

  -- where that side is busy, the seat may seek it
  pub seek_load_passes : (task : T) → IsRunning (seat_row s.seats k) → is_in f task s.table ≡ false →
      busy_exclusive s.seats.lock.rows s.seats.lock.exclusive k 0 ≡ true → guard_of f s k (Seek (Load task)) ≡ None
  seek_load_passes task is new busy =
      own_guard (λ r runs owner. own_seek For-Load r runs owner (is_in f task s.table)
      (NotBusy when not (busy_exclusive s.seats.lock.rows s.seats.lock.exclusive k 0) else None)) s.seats k
      (running_seat is.0) exclusive is.1
      ∙ (λ i. InTable when new i else (NotBusy when not (busy i) else None))

  -- what may keep a seat from the load that it seeks is that side
  pub take_sought_guard : SameIsEqual f → (task : T) → IsSeeking (seat_row s.seats k) →
      section_want s k ≡ Some (Load task) →
      guard_of f s k (Take (Load task))
      ≡ (BusyExclusive when busy_exclusive s.seats.lock.rows s.seats.lock.exclusive k 0 else None)
  take_sought_guard equal task is sought =
      own_guard (λ r runs owner. own_take For-Load r runs owner (is_in f task s.table) (is_wanted f s k (Load task))
      (BusyExclusive when busy_exclusive s.seats.lock.rows s.seats.lock.exclusive k 0 else None)) s.seats k
      (seeking_seat is.0 is.1.0) exclusive is.1.1
      ∙ ap (λ wanted. WrongWant when not wanted else
      (BusyExclusive when busy_exclusive s.seats.lock.rows s.seats.lock.exclusive k 0 else None))
      (ap (is_that f (Load task)) sought ∙ same_self f equal task)

  -- a seat that loads may define a task that the table lacks
  pub define_passes : (task : T) → IsLoading (seat_row s.seats k) → is_in f task s.table ≡ false →
      guard_of f s k (Define task) ≡ None
  define_passes task is new =
      (λ i. own_guard (λ r runs owner. own_define r runs owner None) s.seats k (loading_seat is.0 is.1.0) exclusive
      is.1.1 i orElse (InTable when new i else None))

  -- a seat that is exclusive may release
  pub release_passes : (running : Option ℕ) (opened : ℕ) → seat_row s.seats k ≡ exclusive_seat running opened →
      guard_of f s k Release ≡ None
  release_passes running opened is =
      own_guard (λ r runs owner. own_release r runs owner None) s.seats k (exclusive_seat running opened) exclusive is

  -- a seat that runs may yield
  pub yield_passes : IsRunning (seat_row s.seats k) → guard_of f s k Yield ≡ None
  yield_passes is =
      own_guard (λ r runs owner. own_yield r runs owner None) s.seats k (running_seat is.0) exclusive is.1

  -- AN UNLOAD

  -- what may keep a seat that shares from an unload is the busy exclusive side
  pub take_unload_guard : seat_row s.seats k ≡ sharing_seat →
      guard_of f s k (Take Unload)
      ≡ (BusyExclusive when busy_exclusive s.seats.lock.rows s.seats.lock.exclusive k 1 else None)
  take_unload_guard is =
      own_guard (λ r runs owner. own_take For-Unload r runs owner false (is_wanted f s k Unload)
      (BusyExclusive when busy_exclusive s.seats.lock.rows s.seats.lock.exclusive k 1 else None)) s.seats k
      sharing_seat exclusive is

  -- where that side is busy, the seat may seek it
  pub seek_unload_passes : seat_row s.seats k ≡ sharing_seat →
      busy_exclusive s.seats.lock.rows s.seats.lock.exclusive k 1 ≡ true → guard_of f s k (Seek Unload) ≡ None
  seek_unload_passes is busy =
      own_guard (λ r runs owner. own_seek For-Unload r runs owner false
      (NotBusy when not (busy_exclusive s.seats.lock.rows s.seats.lock.exclusive k 1) else None)) s.seats k
      sharing_seat exclusive is
      ∙ ap (λ b. NotBusy when not b else None) busy

  -- what may keep a seat that unloads from a Reload is a limit, or that nothing has changed
  pub reload_limited : (program : P) (opened : ℕ) → seat_row s.seats k ≡ unloading_seat opened →
      guard_of f s k (Reload program) ≡ reload_limits f s.counts program
  reload_limited program opened is =
      ap (λ g. g orElse reload_limits f s.counts program)
      (own_guard (λ r runs owner. own_reload r runs owner None) s.seats k (unloading_seat opened) exclusive is)

-- a test that gave a guard is true
pub guard_true : (g : Guard) (b : Bool) (h : Guard) → (g when b else None) ≡ Some h → b ≡ true
guard_true g true h is = refl
guard_true g false h is = absurd (cc)

-- THE ROW AFTER A RELEASE

-- the row of an exclusive seat after its release
abbrev pub after_release : Bool → Option ℕ → SystemRow
after_release first running = record {
  lock = if first then releasing (purpose_list (if is_some running then For-Load else For-Unload)) sharing else sharing;
  running = running;
  section = None;
}

-- a seat that is calm after its release runs on
pub released_calm : (first : Bool) (running : Option ℕ) → is_calm (after_release first running).lock.phase ≡ true →
    after_release first running ≡ calm_seat running
released_calm true running is = absurd (true≢false (sym is))
released_calm false running is = refl

-- one that isn't waits for those that go first
pub released_waits : (first : Bool) (running : Option ℕ) → is_calm (after_release first running).lock.phase ≡ false →
    after_release first running ≡ leaving_seat running
released_waits true None is = refl
released_waits true (Some begun) is = refl
released_waits false running is = absurd (true≢false is)

-- a refusal that isn't for want of memory leaves the row
pub refused_row : {M T V P Q R F : Type 0} (first : Bool) (place : ℕ) (r : SystemRow) (cause : Cause M T V P Q R F) →
    cause ≢ Memory → next_row first place r (Refuse cause) ≡ r
refused_row first place r Memory other = absurd (other refl)
refused_row first place r _ other = refl
