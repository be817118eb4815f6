-- What a load section defines.
use Rattle.std.proofs.Common.{◌≡◌, List, [], ◌∷◌, ◌++◌, Option, Some, None, Bool, true, false, refl, sym}
use Rattle.std.proofs.Common.{ap, ◌∙◌, subst, zero, suc, ℕ}
use Rattle.std.specs.Prelude.{is_some, if◌then◌else◌}
use Rattle.std.proofs.lemmas.Bool.{true≢false}
use Rattle.std.proofs.lemmas.Option.{none-some}
use Rattle.by_need.specs.Laws.{Lawful}
use Rattle.by_need.specs.Load.{Defines}
use Rattle.by_need.specs.Rounds.{Rules}
use Rattle.by_need.specs.Rounds as rounds
use Rattle.by_need_loader.specs.Progress.{Progress, Tells}
use Rattle.by_need_loader.specs.Runs.{Runs}
use Rattle.by_need_loader.specs.declared.loader.LoadStep.TheVariants as step
use Rattle.system_seats.specs.Seats.{mark}
use Rattle.system_seats.specs.Guards.{define_guard}
use Rattle.system_events.specs.declared.event.Entry.{Entry}
use Rattle.system_events.specs.declared.event.Want.{Want}
use Rattle.system_events.specs.declared.event.Want.TheVariants.{Load}
use Rattle.system_events.specs.declared.event.Kept.TheVariants.{Define}
use Rattle.system_events.specs.Facts.{Facts, Needs, itself, through, SameIsEqual}
use Rattle.system_events.specs.State.{State, is_in, want_at, section_want}
use Rattle.system_events.specs.Steps.{effect, pair_of, IsNeeded}
use Rattle.system_events.specs.Legal.{IsStep}
use Rattle.system_core.specs.Tables.{lookup}
use Rattle.load_sections.specs.Theories.{IsOfTheory}
use Rattle.load_sections.specs.Sections.{table_at, IsLoading, IsMade}
use Rattle.load_sections.specs.declared.section.Made.TheVariants.{Defined, Loaded, Failed}
use Rattle.by_need_loader.specs.declared.loader.Failure.{Failure}
use Rattle.system_seats.specs.declared.guard.Guard.TheVariants.{InTable}
use Rattle.system_seats.specs.Guards.{◌when◌else◌}
use Rattle.system_events.specs.Guards.{guard_of, ◌orElse◌}
use Rattle.system_core.proofs.Finding.{is_in_lookup}
use Rattle.system_laws.proofs.Table.{same_self}

-- NEEDS

module _ {T V P Q R F E O : Type 0} (f : Facts T V P Q R F) (p : P) (r : Rules T V E O) (of : IsOfTheory f p r) where
  -- what a task needs in the theory, it needs in the system
  pub needs_of : {sought task : T} → rounds.Needs r sought task → Needs (f.asked p) sought task
  needs_of rounds.itself = itself
  needs_of (rounds.asked {v = asking} {u = task} needs asks) =
      through asking task (needs_of needs) (of.asked asking task asks)

-- THE TABLE

module _ {T V P Q R F : Type 0} (f : Facts T V P Q R F) (equal : SameIsEqual f) where
  not_same : (a b : T) → (b ≡ a → ⊥) → f.same_task a b ≡ false
  not_same a b other = by (f.same_task a b) refl
    where
      by : (v : Bool) → f.same_task a b ≡ v → f.same_task a b ≡ false
      by true is = absurd (other (sym ((equal a b).0 is)))
      by false is = is

  -- a new task has its value
  lookup_new : (task : T) (value : V) (table : List (T × V)) → lookup f task table ≡ None →
      lookup f task (table ++ (task, value) ∷ []) ≡ Some value
  lookup_new task value [] none = ap (λ b. if b then Some value else None) (same_self f equal task)
  lookup_new task value (pair ∷ pairs) none = by (f.same_task pair.0 task) refl (lookup_new task value pairs)
    where
      by : (b : Bool) → f.same_task pair.0 task ≡ b →
          (lookup f task pairs ≡ None → lookup f task (pairs ++ (task, value) ∷ []) ≡ Some value) →
          lookup f task ((pair ∷ pairs) ++ (task, value) ∷ []) ≡ Some value
      by true is later =
          absurd (none-some pair.1 (sym none ∙ ap (λ b. if b then Some pair.1 else lookup f task pairs) is))
      by false is later =
          ap (λ b. if b then Some pair.1 else lookup f task (pairs ++ (task, value) ∷ [])) is
          ∙ later (sym (ap (λ b. if b then Some pair.1 else lookup f task pairs) is) ∙ none)

  -- the other tasks keep theirs
  lookup_other : (other task : T) (value : V) (table : List (T × V)) → (other ≡ task → ⊥) →
      lookup f other (table ++ (task, value) ∷ []) ≡ lookup f other table
  lookup_other other task value [] apart = ap (λ b. if b then Some value else None) (not_same task other apart)
  lookup_other other task value (pair ∷ pairs) apart =
      ap (λ o. if f.same_task pair.0 other then Some pair.1 else o) (lookup_other other task value pairs apart)

module _ {M T V P Q R F E O : Type 0} (f : Facts T V P Q R F) (equal : SameIsEqual f) (r : Rules T V E O)
    (laws : Lawful r) where
  -- the table gains a task that is known
  pub table_defines : (s : State M T V P Q R F) (seat : ℕ) (task : T) (value : V) →
      f.known s.counts.program task ≡ Some value → table_at f s task ≡ None →
      Defines r (table_at f s) task value (table_at f (effect f s seat (Define task)))
  table_defines s seat task value known lacks = record {
    new = ap (λ o. lookup f task (s.table ++ pair_of task o)) known ∙ lookup_new f equal task value s.table lacks;
    old = λ other apart.
        ap (λ o. lookup f other (s.table ++ pair_of task o)) known
        ∙ lookup_other f equal other task value s.table
        (λ same. true≢false (sym (laws.same_self task)
        ∙ (ap (λ t. r.same t task) (sym same) ∙ apart)));
  }

-- THE SECTION

module _ {M T V P Q R F : Type 0} where
  -- an open section's want stays when the history grows
  pub want_grows : (es xs : List (Entry M T V P Q R F)) (at : Option ℕ) (w : Want M T V P Q R F) →
      want_at es at ≡ Some w → want_at (es ++ xs) at ≡ Some w
  want_grows es xs None w is = absurd (none-some w is)
  want_grows [] xs (Some place) w is = absurd (none-some w is)
  want_grows (e ∷ es) xs (Some zero) w is = is
  want_grows (e ∷ es) xs (Some (suc place)) w is = want_grows es xs (Some place) w is

module _ {M T V P Q R F E O G W N : Type 0} (f : Facts T V P Q R F) (equal : SameIsEqual f) (r : Rules T V E O)
    (laws : Lawful r) (m : Runs T V E O G W N) (sought : T) (at_first : T → Option V) where
  -- a section goes on behind a define
  pub loading_after : (s : State M T V P Q R F) (seat : ℕ) (loader : Progress T G W N) (made : List (T × V))
      (bound : ℕ) (task : T) (value : V) → section_want s seat ≡ Some (Load sought) →
      define_guard s.seats seat ≡ None → f.known s.counts.program task ≡ Some value →
      Tells r m (record { wanted = sought; at_first = at_first; made = made; table = table_at f s }) bound loader
      (step.Define task value) →
      IsLoading f r m sought at_first (effect f s seat (Define task)) seat (made ++ (task, value) ∷ []) loader
  loading_after s seat loader made bound task value section passes known told =
      let next = told.4 (table_at f (effect f s seat (Define task)))
      (table_defines f equal r laws s seat task value known told.1) in
      record {
        section = want_grows s.history _ (mark s.seats seat).section (Load sought) section;
        passes = passes;
        ready = told.0;
        on = next.0;
      }

  -- the condition of a define that a loader tells
  pub define_is_needed : (s : State M T V P Q R F) (seat : ℕ) (loader : Progress T G W N) (made : List (T × V))
      (bound : ℕ) (task : T) (value : V) → (of : IsOfTheory f s.counts.program r) →
      section_want s seat ≡ Some (Load sought) →
      Tells r m (record { wanted = sought; at_first = at_first; made = made; table = table_at f s }) bound loader
      (step.Define task value) → IsNeeded f s seat task
  define_is_needed s seat loader made bound task value of section told = (
    ap is_some (of.known_of task ∙ told.2),
    (sought, (section, needs_of f s.counts.program r of told.3)),
  )

  -- a define that was entered is what the section made
  pub is_defined : (old s new : State M T V P Q R F) (k seat : ℕ) (loader : Progress T G W N) (made : List (T × V))
      (bound : ℕ) (told task : T) (value : V) → s ≡ old → seat ≡ k → told ≡ task →
      IsStep f s (record { seat = seat; kept = Define task }) new → section_want s k ≡ Some (Load sought) →
      define_guard s.seats k ≡ None →
      f.known s.counts.program task ≡ Some value →
      Tells r m (record { wanted = sought; at_first = at_first; made = made; table = table_at f s }) bound loader
      (step.Define task value) →
      IsMade f r m sought at_first old new k made loader (Defined told)
  is_defined old s new k seat loader made bound told task value same here copied entered section passes known tells =
      let at_seat : IsStep f s (record { seat = k; kept = Define task }) new =
      subst (λ (j : ℕ). IsStep f s (record { seat = j; kept = Define task }) new) here entered in
      let more : List (T × V) = made ++ (task, value) ∷ [] in
      let goes : IsLoading f r m sought at_first (effect f s k (Define task)) k more loader =
      loading_after s k loader made bound task value section passes known tells in
      let made_here : IsMade f r m sought at_first s new k made loader (Defined task) = (
        at_seat,
        (
          value,
          (
            known,
            subst (λ (x : State M T V P Q R F). IsLoading f r m sought at_first x k more loader) (sym at_seat.is) goes,
          ),
        ),
      ) in
      let made_told : IsMade f r m sought at_first s new k made loader (Defined told) =
      subst (λ (t : T). IsMade f r m sought at_first s new k made loader (Defined t)) (sym copied) made_here in
      subst (λ (o : State M T V P Q R F). IsMade f r m sought at_first o new k made loader (Defined told)) same
      made_told

  -- a load that is done
  pub is_loaded : (old s : State M T V P Q R F) (k : ℕ) (loader later : Progress T G W N) (made : List (T × V))
      (bound : ℕ) → (of : IsOfTheory f s.counts.program r) → s ≡ old →
      Tells r m (record { wanted = sought; at_first = at_first; made = made; table = table_at f s }) bound loader
      step.Done → IsMade f r m sought at_first old s k made later Loaded
  is_loaded old s k loader later made bound of same tells =
      let here : IsMade f r m sought at_first s s k made later Loaded = (
        refl,
        tells.3,
        (tells.0, (of.known_of sought ∙ tells.1, tells.2)),
      ) in
      subst (λ (o : State M T V P Q R F). IsMade f r m sought at_first o s k made later Loaded) same here

  -- a load that failed
  pub has_failed : (old s : State M T V P Q R F) (k : ℕ) (loader later : Progress T G W N) (made : List (T × V))
      (bound : ℕ) (failure : Failure T E O) → (of : IsOfTheory f s.counts.program r) → s ≡ old →
      Tells r m (record { wanted = sought; at_first = at_first; made = made; table = table_at f s }) bound loader
      (step.Failed failure) → IsMade f r m sought at_first old s k made later (Failed failure)
  has_failed old s k loader later made bound failure of same tells =
      let here : IsMade f r m sought at_first s s k made later (Failed failure) = (
        refl,
        tells.2,
        of.known_of sought ∙ tells.0,
        tells.1,
      ) in
      subst (λ (o : State M T V P Q R F). IsMade f r m sought at_first o s k made later (Failed failure)) same here

-- the theory of a state is that of the same state
pub theory_at : {M T V P Q R F E O : Type 0} (f : Facts T V P Q R F) (r : Rules T V E O) (old s : State M T V P Q R F) →
    s ≡ old → IsOfTheory f old.counts.program r → IsOfTheory f s.counts.program r
theory_at {M} {T} {V} {P} {Q} {R} {F} f r old s same of =
    subst (λ (x : State M T V P Q R F). IsOfTheory f x.counts.program r) (sym same) of

-- a define passes where the table lacks its task
pub define_passes : {M T V P Q R F : Type 0} (f : Facts T V P Q R F) (s : State M T V P Q R F) (seat : ℕ) (task : T) →
    define_guard s.seats seat ≡ None → table_at f s task ≡ None → guard_of f s seat (Define task) ≡ None
define_passes f s seat task passes lacks =
    let out : is_in f task s.table ≡ false = sym (is_in_lookup f task s.table) ∙ ap is_some lacks in
    ap (λ o. o orElse InTable when is_in f task s.table else None) passes
    ∙ ap (λ b. InTable when b else None) out
