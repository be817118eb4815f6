-- The laws of all legal histories.
use Rattle.std.proofs.Common.{◌≡◌, ℕ, inl, inr, List, [], ◌∷◌, ◌++◌, Option, Some, None}
use Rattle.std.proofs.Common.{Bool}
use Rattle.std.proofs.Common.{true, false, if◌then◌else◌, is_some, refl, sym, ap, ◌∙◌, subst, arith}
use Rattle.std.proofs.lemmas.Bool.{true≢false, not-false}
use Rattle.std.proofs.lemmas.Option.{same_Some}
use Rattle.system_seats.specs.Seats.{mark, runs_at}
use Rattle.system_seats.specs.declared.guard.Purpose.{Purpose}
use Rattle.system_seats.specs.declared.guard.Purpose.TheVariants.{Load as For-Load, Unload as For-Unload}
use Rattle.system_seats.specs.Seats.{purpose_bit}
use Rattle.system_seats.specs.Guards.{take_guard}
use Rattle.system_seats.specs.Effects.{purpose_of_section}
use Rattle.system_seats.proofs.From.{guard_false}
use Rattle.system_events.specs.declared.event.Want.{Want}
use Rattle.system_events.specs.declared.event.Want.TheVariants.{Load, Unload}
use Rattle.system_events.specs.declared.event.Entry.{Entry}
use Rattle.system_events.specs.declared.event.Kept.{Kept}
use Rattle.system_events.specs.declared.event.Kept.TheVariants.{Define, Reload, Begin, End}
use Rattle.system_events.specs.Facts.{Facts, SameIsEqual}
use Rattle.system_events.specs.State.{State, is_in, request_at, want_at, purpose_of, in_table, same_want, is_that}
use Rattle.system_events.specs.State.{is_wanted}
use Rattle.system_events.specs.Guards.{guard_of}
use Rattle.system_events.specs.Steps.{effect, pair_of, IsReply}
use Rattle.system_events.specs.Legal.{start, IsStep, after_from, after, IsLegal}
use Rattle.system_events.specs.Right.{is_of_thread, one_thread, program_after, begun_after, last_begin, IsRight}
use Rattle.system_laws.specs.Lawful.{MayTake, NoReload, DefinesOnce, DefinesNeeded}
use Rattle.system_laws.proofs.Tidy.{second_none}
use Rattle.system_laws.proofs.Table.{same_self, not_true, in_defined, in_kept}
use Rattle.system_laws.proofs.Runs.{Runs}
use Rattle.system_laws.proofs.Exclusion.{tidy-exclusive, tidy-may_take}
use Rattle.system_laws.proofs.Keeps.{Keeps, keeps_after, history_after, legal_split}

-- EVERY LEGAL HISTORY IS RIGHT

module _ {M T V P Q R F : Type 0} where
  -- the other entries begin nothing and reload nothing
  thread_same : (k : ℕ) (program : P) (found : Option (P × Q)) (es : List (Entry M T V P Q R F)) →
      last_begin k program found (one_thread es) ≡ last_begin k program found es
  thread_same k program found [] = refl
  thread_same k program found (e ∷ es) =
      by (is_of_thread e.kept) refl (thread_same k (program_after program e.kept)
      (begun_after k program found e.seat e.kept) es) (thread_same k program found es)
    where
      idle : (seat : ℕ) (kept : Kept M T V P Q R F) → is_of_thread kept ≡ false →
          (program ≡ program_after program kept) × (found ≡ begun_after k program found seat kept)
      idle seat (Reload next) is = absurd (true≢false is)
      idle seat (Begin request) is = absurd (true≢false is)
      idle seat _ is = (refl, refl)

      by : (b : Bool) → is_of_thread e.kept ≡ b →
          last_begin k (program_after program e.kept) (begun_after k program found e.seat e.kept) (one_thread es)
          ≡ last_begin k program found (e ∷ es) →
          last_begin k program found (one_thread es) ≡ last_begin k program found es →
          last_begin k program found (if is_of_thread e.kept then (e ∷ one_thread es) else one_thread es)
          ≡ last_begin k program found (e ∷ es)
      by true is on off = ap (λ b. last_begin k program found (if b then (e ∷ one_thread es) else one_thread es)) is
          ∙ on
      by false is on off =
          ap (λ b. last_begin k program found (if b then (e ∷ one_thread es) else one_thread es)) is
          ∙ (off ∙ (λ i. last_begin k ((idle e.seat e.kept is).0 i) ((idle e.seat e.kept is).1 i) es))

-- the purpose with the number 0 is a load
load_of : (purpose : Purpose) → 0 ≡ purpose_bit purpose → purpose ≡ For-Load
load_of For-Load is = refl
load_of For-Unload is = absurd (omega (arith, is))

-- what is there is some number
some_there : (o : Option ℕ) → is_some o ≡ true → (n : ℕ) × (o ≡ Some n)
some_there None is = absurd (true≢false (sym is))
some_there (Some n) is = (n, refl)

module _ {M T V P Q R F : Type 0} (f : Facts T V P Q R F) (equal : SameIsEqual f) where
  -- Each End of a legal history carries the reply of its seat's last Begin before it, on the program of the last Reload
  -- before that Begin.
  pub legal-right : (n : ℕ) (h : List (Entry M T V P Q R F)) → IsLegal f n h → IsRight f h
  legal-right n h legal before later k reply is =
      elim (legal_split f n before (record { seat = k; kept = End reply }) later (subst (IsLegal f n) is legal)) [
        | inl first ↦ absurd (true≢false (sym (ap (λ (e : Entry M T V P Q R F). is_of_thread e.kept) first)))
        | inr split ↦
            let s : State M T V P Q R F = after f n before in
            let keeps : Keeps f s = keeps_after f equal n before split.0 in
            let history : s.history ≡ before = history_after f n before split.0 in
            let running = some_there (mark s.seats k).running (running_of s k (split.1).passes) in
            let runs : Runs f s k running.0 = keeps.runs k running.0 running.1 in
            let answers : IsReply f s runs.request reply =
            (split.1).allowed runs.request (ap (request_at s.history) running.1 ∙ runs.there) in (
              s.counts.program,
              (
                runs.request,
                (
                  thread_same k f.empty None before
                      ∙ (ap (last_begin k f.empty None) (sym history) ∙ runs.last),
                  answers.0,
                ),
              ),
            )
      ]
    where
      running_of : (s : State M T V P Q R F) (j : ℕ) → guard_of f s j (End reply) ≡ None → runs_at s.seats j ≡ true
      running_of s j p = not-false (runs_at s.seats j) (guard_false _ _ _ p).0

  -- NO TASK IS DEFINED TWICE BETWEEN TWO RELOADS

  in_after : (s : State M T V P Q R F) (es : List (Entry M T V P Q R F)) (task : T) → NoReload f es →
      is_in f task s.table ≡ true → is_in f task (after_from f s es).table ≡ true
  in_after s [] task none is = is
  in_after s (e ∷ es) task none is =
      in_after (effect f s e.seat e.kept) es task none.1 (in_kept f equal s e.kept task none.0 is)

  in_new : (s : State M T V P Q R F) (task : T) (o : Option V) → f.known s.counts.program task ≡ o → is_some o ≡ true →
      is_in f task (s.table ++ pair_of task (f.known s.counts.program task)) ≡ true
  in_new s task None is known = absurd (true≢false (sym known))
  in_new s task (Some value) is known =
      ap (λ o. is_in f task (s.table ++ pair_of task o)) is ∙ in_defined f equal task value s.table

  after_from-append : (s : State M T V P Q R F) (xs : List (Entry M T V P Q R F)) (e : Entry M T V P Q R F)
      (ys : List (Entry M T V P Q R F)) →
      after_from f s (xs ++ e ∷ ys) ≡ after_from f (effect f (after_from f s xs) e.seat e.kept) ys
  after_from-append s [] e ys = refl
  after_from-append s (x ∷ xs) e ys = after_from-append (effect f s x.seat x.kept) xs e ys

  after-append : (n : ℕ) (before : List (Entry M T V P Q R F)) (e : Entry M T V P Q R F)
      (ys : List (Entry M T V P Q R F)) → IsLegal f n before →
      after f n (before ++ e ∷ ys) ≡ after_from f (effect f (after f n before) e.seat e.kept) ys
  after-append n [] e ys legal = absurd (cc)
  after-append n (x ∷ xs) e ys legal = after_from-append (start f n) xs e ys

  -- a Define of a legal history is no opening
  define_step : (n : ℕ) (before : List (Entry M T V P Q R F)) (k : ℕ) (task : T) (later : List (Entry M T V P Q R F)) →
      IsLegal f n (before ++ (record { seat = k; kept = Define task }) ∷ later) →
      IsLegal f n before × IsStep f (after f n before) (record { seat = k; kept = Define task })
      (effect f (after f n before) k (Define task))
  define_step n before k task later legal =
      elim (legal_split f n before (record { seat = k; kept = Define task }) later legal) [
        | inl first ↦ absurd (true≢false (sym (ap (λ (e : Entry M T V P Q R F). is_of_thread e.kept) first)))
        | inr split ↦ split
      ]

  -- Each Define of a legal history is of a task that the sought task needs, and that is known of the program in force.
  pub legal-needed : (n : ℕ) (h : List (Entry M T V P Q R F)) → IsLegal f n h → DefinesNeeded f n h
  legal-needed n h legal before later k task is =
      (define_step n before k task later (subst (IsLegal f n) is legal)).1.allowed

  -- Between two Reloads of a legal history no task is defined twice.
  pub legal-once : (n : ℕ) (h : List (Entry M T V P Q R F)) → IsLegal f n h → DefinesOnce f h
  legal-once n h legal before between later j k a b is none =
      let first : Entry M T V P Q R F = record { seat = j; kept = Define a } in
      let second = define_step n (before ++ first ∷ between) k b later (subst (IsLegal f n) is legal) in
      let opened = define_step n before j a between second.0 in
      let here : State M T V P Q R F = after f n (before ++ first ∷ between) in
      let defined : is_in f a here.table ≡ true =
      ap (λ (s : State M T V P Q R F). is_in f a s.table) (after-append n before first between opened.0)
      ∙ in_after (effect f (after f n before) j (Define a)) between a none
      (in_new (after f n before) a _ refl (opened.1.allowed).0) in
      let new : is_in f b here.table ≡ false = (guard_false _ _ _ (second_none _ _ second.1.passes)).0 in
      not_true f equal (f.same_task a b) (λ same.
      true≢false (sym defined ∙ (ap (λ t. is_in f t here.table) ((equal a b).0 same) ∙ new)))

  -- WHO MAY TAKE

  same_want_self : (want : Want M T V P Q R F) → same_want f want want ≡ true
  same_want_self (Load task) = same_self f equal task
  same_want_self Unload = refl

  -- Where no seat is exclusive and none has a share, each seat that seeks a load may take it.
  pub keeps-may_take : (s : State M T V P Q R F) → Keeps f s → MayTake f s
  keeps-may_take s keeps k want none idle seeks is =
      let section = some_there (mark s.seats k).section ((tidy-exclusive s.seats keeps.tidy).seeks k 0 seeks).0 in
      let opened = keeps.sections k section.0 section.1 in
      let same : opened.0 ≡ want =
      same_Some opened.0 want (sym opened.1.0 ∙ (sym (ap (want_at s.history) section.1) ∙ is)) in
      let purpose : purpose_of want ≡ For-Load =
      sym (ap purpose_of same) ∙ (opened.1.1 ∙ load_of (purpose_of_section (mark s.seats k))
      ((tidy-exclusive s.seats keeps.tidy).seeks k 0 seeks).1) in
      let wanted : is_wanted f s k want ≡ true = ap (is_that f want) is ∙ same_want_self want in
      (λ i. take_guard s.seats k (purpose i) (in_table f s want) (wanted i))
      ∙ tidy-may_take s.seats k (in_table f s want) keeps.tidy none idle seeks
