-- How a load section opens.
use Rattle.std.proofs.Common.{◌≡◌, ◌<◌, ℕ, [], ◌∷◌, ◌++◌, length, Option, Some, None, Bool, true, false}
use Rattle.std.proofs.Common.{sym, ap, ◌∙◌, subst, arith, inl, inr, set, get_or-set_same}
use Rattle.std.specs.Prelude.{is_some, not, ◌&&◌, ◌==◌, if◌then◌else◌, Contains}
use Rattle.std.proofs.lemmas.Bool.{true≢false, not-false, and_parts, cond_both}
use Rattle.std.proofs.lemmas.Bool.Decides.{nat_tests}
use Rattle.by_need.specs.Laws.{Lawful}
use Rattle.by_need.specs.Rounds.{Rules}
use Rattle.by_need_loader.specs.Progress.{begun, nothing_done}
use Rattle.by_need_loader.specs.Runs.{Runs}
use Rattle.by_need_loader.proofs.Goes.{begins}
use Rattle.share_lock.specs.declared.seat.Phase.{Phase}
use Rattle.share_lock.specs.declared.seat.Phase.TheVariants.{Calm, Seeking, Releasing}
use Rattle.share_lock.specs.Rows.{busy_exclusive}
use Rattle.system_seats.specs.declared.guard.Guard.TheVariants.{NotLoading, BusyExclusive, WrongWant}
use Rattle.system_seats.specs.declared.guard.Purpose.{Purpose}
use Rattle.system_seats.specs.declared.guard.Purpose.TheVariants as purpose
use Rattle.system_seats.specs.declared.guard.Marks.{Marks}
use Rattle.system_seats.specs.Seats.{Seats, no_marks, mark, mark_at, row, runs_at, is_owner, is_calm}
use Rattle.system_seats.specs.Guards.{◌when◌else◌, own_seek, take_guard, define_guard, seeks_this}
use Rattle.system_seats.specs.Effects.{with_section}
use Rattle.system_seats.specs.Shapes.{IsTidy}
use Rattle.system_seats.proofs.From.{guard_false}
use Rattle.system_seats.proofs.Leaves.{take-at}
use Rattle.system_events.specs.declared.event.Entry.{Entry}
use Rattle.system_events.specs.declared.event.Want.{Want}
use Rattle.system_events.specs.declared.event.Want.TheVariants.{Load, Unload}
use Rattle.system_events.specs.declared.event.Kept.TheVariants.{Take}
use Rattle.system_events.specs.Facts.{Facts, SameIsEqual}
use Rattle.system_events.specs.State.{State, want_at, entry_want, section_want, in_table, is_wanted, is_that}
use Rattle.system_events.specs.Legal.{IsAfter, IsStep}
use Rattle.system_laws.proofs.Lists.{get_new}
use Rattle.load_sections.specs.Theories.{IsOfTheory}
use Rattle.load_sections.specs.Sections.{table_at, IsLoading, IsOpenFor}
use Rattle.load_sections.proofs.Defining.{want_grows}
use Rattle.load_sections.proofs.Tables.{tidy_of, table_of_system, table_is_part}

-- a seat that seeks this seeks its task
seeks_wanted : (what : Purpose) (wanted : Bool) (phase : Phase) → seeks_this what wanted phase ≡ true → wanted ≡ true
seeks_wanted what wanted Calm is = absurd (true≢false (sym is))
seeks_wanted what wanted (Seeking p) is = (and_parts _ wanted is).1
seeks_wanted what wanted (Releasing list) is = absurd (true≢false (sym is))

-- a number is itself
is_itself : (k : ℕ) → (k == k) ≡ true
is_itself k = grind (arith, nat_tests)

module _ {M T V P Q R F : Type 0} (f : Facts T V P Q R F) (equal : SameIsEqual f) where
  -- a want that is a load of the task
  that_is : (sought : T) (want : Option (Want M T V P Q R F)) → is_that f (Load sought) want ≡ true →
      want ≡ Some (Load sought)
  that_is sought None is = absurd (true≢false (sym is))
  that_is sought (Some (Load task)) is = ap (λ t. Some (Load t)) ((equal task sought).0 is)
  that_is sought (Some Unload) is = absurd (true≢false (sym is))

  -- a seat that takes a load runs a request
  take_runs : (s : State M T V P Q R F) (k : ℕ) (known wanted : Bool) → IsTidy s.seats →
      take_guard s.seats k purpose.Load known wanted ≡ None → runs_at s.seats k ≡ true
  take_runs s k known wanted tidy passes =
      elim (take-at s.seats k purpose.Load known wanted tidy passes).0 [
        | inl calm ↦ calm.running
        | inr seeks ↦ seeks.running
      ]

  -- where a seat takes what it sought, its section is for the task
  sought_section : (s : State M T V P Q R F) (k : ℕ) (sought : T) (known : Bool) →
      take_guard s.seats k purpose.Load known (is_wanted f s k (Load sought)) ≡ None →
      is_calm (row s.seats k).phase ≡ false →
      section_want s k ≡ Some (Load sought)
  sought_section s k sought known passes waits =
      let others = BusyExclusive when busy_exclusive s.seats.lock.rows s.seats.lock.exclusive k 0 else None in
      let seeks = guard_false (not (seeks_this purpose.Load (is_wanted f s k (Load sought)) (row s.seats k).phase))
      WrongWant others (sym (ap (λ b. if b then own_seek purpose.Load (row s.seats k) (runs_at s.seats k)
      (is_owner s.seats k) known others else (WrongWant when not (seeks_this purpose.Load
      (is_wanted f s k (Load sought)) (row s.seats k).phase) else others)) waits) ∙ passes) in
      that_is sought (section_want s k) (seeks_wanted purpose.Load (is_wanted f s k (Load sought))
      (row s.seats k).phase (not-false _ seeks.0))

  -- a Take of a load opens a section of its task
  pub take_opens : (seats : ℕ) (old new : State M T V P Q R F) (k : ℕ) (sought : T) → IsAfter f seats old →
      IsStep f old (record { seat = k; kept = Take (Load sought) }) new → IsOpenFor new k sought
  take_opens seats old new k sought after step =
      let tidy : IsTidy old.seats = tidy_of f equal seats old after in
      let below : k < length old.seats.marks = subst (λ n. k < n) (sym tidy.even) step.seated in
      let entry : Entry M T V P Q R F = record { seat = k; kept = Take (Load sought) } in
      let runs : runs_at old.seats k ≡ true = take_runs old k (in_table f old (Load sought))
      (is_wanted f old k (Load sought)) tidy step.passes in
      let marked : (m : Marks) → mark_at (set old.seats.marks k m) k ≡ m =
      λ m. get_or-set_same old.seats.marks k m no_marks below in
      let opened : Marks = with_section old.seats k (Some (length old.history)) in
      subst (λ (s : State M T V P Q R F). IsOpenFor s k sought) (sym step.is) (record {
        section = cond_both (is_calm (row old.seats k).phase) _ _
            (λ (a : Seats). want_at (old.history ++ entry ∷ []) (mark a k).section ≡ Some (Load sought))
            (λ calm. ap (λ (m : Marks). want_at (old.history ++ entry ∷ []) m.section) (marked opened)
            ∙ ap entry_want (get_new old.history entry))
            (λ waits. want_grows old.history (entry ∷ []) (mark old.seats k).section (Load sought)
            (sought_section old k sought (in_table f old (Load sought)) step.passes waits));
        passes = cond_both (is_calm (row old.seats k).phase) _ _
            (λ (a : Seats). define_guard a k ≡ None)
            (λ calm. ap (λ b. NotLoading when not b else None)
            (ap (λ b. b && is_some (mark_at (set old.seats.marks k opened) k).running) (is_itself k)
            ∙ (ap (λ (m : Marks). is_some m.running) (marked opened) ∙ runs)))
            (λ waits. ap (λ b. NotLoading when not b else None)
            (ap (λ b. b && runs_at old.seats k) (is_itself k) ∙ runs));
      })

module _ {M T V P Q R F E O G W N : Type 0} (f : Facts T V P Q R F) (equal : SameIsEqual f) (r : Rules T V E O)
    (laws : Lawful r) (m : Runs T V E O G W N) where
  -- a loader of the task begins on an open section of it
  pub open_is_loading : (seats : ℕ) (s : State M T V P Q R F) (k : ℕ) (sought : T) → IsAfter f seats s →
      IsOfTheory f s.counts.program r → Contains (f.tasks s.counts.program) sought → IsOpenFor s k sought →
      IsLoading f r m sought (table_at f s) s k [] (begun sought)
  open_is_loading seats s k sought after of task opened = record {
    section = opened.section;
    passes = opened.passes;
    ready = tt;
    on = begins r m laws (nothing_done sought (table_at f s)) sought (table_at f s) (of.tasks sought task)
        (table_is_part f equal r s.counts.program s.table of (table_of_system f equal seats s after).0);
  }
