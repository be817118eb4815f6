-- Steps into a load section, in it, and out of it.
use Rattle.std.proofs.Common.{◌≡◌, ◌∷◌, [], ◌++◌, ℕ, List, Option, Some, None, Bool, true, false, refl, sym, ap, ◌∙◌}
use Rattle.std.proofs.Common.{subst, inl, inr}
use Rattle.std.specs.Prelude.{not, is_some, Contains}
use Rattle.std.proofs.lemmas.Bool.{not-false, and_parts}
use Rattle.by_need.specs.Blame.{Cause as Blamed, blame}
use Rattle.by_need.specs.Laws.{Lawful}
use Rattle.by_need.specs.Rounds.{Rules}
use Rattle.by_need_loader.specs.Failures.{cause}
use Rattle.by_need_loader.specs.Runs.{Runs}
use Rattle.by_need_loader.specs.Progress.{Progress, begun}
use Rattle.by_need_loader.specs.declared.loader.Failure.{Failure}
use Rattle.system_seats.specs.declared.guard.Guard.TheVariants.{NotExclusive}
use Rattle.system_seats.specs.Seats.{Seats, is_owner, runs_at}
use Rattle.system_seats.specs.Guards.{◌when◌else◌, define_guard, release_guard}
use Rattle.system_seats.proofs.From.{guard_false}
use Rattle.system_events.specs.declared.event.Act.{Act}
use Rattle.system_events.specs.declared.event.Act.TheVariants as act
use Rattle.system_events.specs.declared.event.Cause.{Cause}
use Rattle.system_events.specs.declared.event.Entry.{Entry}
use Rattle.system_events.specs.declared.event.Want.TheVariants as want
use Rattle.system_events.specs.declared.event.Kept.TheVariants as kept
use Rattle.system_events.specs.Facts.{Facts, SameIsEqual}
use Rattle.system_events.specs.State.{State, is_in}
use Rattle.system_events.specs.Steps.{effect, kept_of}
use Rattle.system_events.specs.Legal.{IsAfter, IsStep}
use Rattle.system_laws.specs.Lawful.{IsExclusive}
use Rattle.system_laws.proofs.Keeps.{after-push}
use Rattle.system_core.proofs.Finding.{is_in_lookup}
use Rattle.load_sections.specs.Theories.{IsOfTheory}
use Rattle.load_sections.specs.Sections.{table_at, IsLoading, IsMade}
use Rattle.load_sections.specs.declared.section.Made.{Made}
use Rattle.load_sections.specs.declared.section.Made.TheVariants as section
use Rattle.load_sections.proofs.Opening.{take_opens, open_is_loading}
use Rattle.request_actor.specs.Talks.{Talks, AreOf}
use Rattle.request_actor.specs.declared.actor.Stage.{Stage}
use Rattle.request_actor.specs.declared.op.Op.{Op}
use Rattle.request_actor.specs.declared.op.Op.TheVariants as op
use Rattle.request_laws.specs.Standing.{LeavesRequest}
use Rattle.seat_requests.specs.Trying.{Verdict, verdict, Passes, IsRefused, IsLimited}
use Rattle.seat_requests.specs.Standing.{IsStanding}
use Rattle.seat_requests.proofs.Standing.{standing_stays, may_load}
use Rattle.replay_matter.specs.Words.{Words}
use Rattle.seat_operations.specs.Coming.{Enters, Takes, Tries, verdict_of}
use Rattle.seat_operations.specs.Readying.{IsMoved}
use Rattle.seat_operations.specs.declared.came.Taking.{Taking}
use Rattle.seat_operations.specs.declared.came.Taking.TheVariants as taking
use Rattle.seat_operations.specs.declared.came.Tried.{Tried}
use Rattle.seat_operations.specs.declared.came.Tried.TheVariants as tried
use Rattle.seat_steps.specs.Theories.{Theories}
use Rattle.seat_steps.specs.Stepping.{OpensAt, Closes, SectionGoes, Next-Define, Is-Done, Has-Failed, define_lines}
use Rattle.seat_steps.specs.Standing.{HasEnded, GoesOnAt, IsOpen, MayBeOpen, StaysOpen}
use Rattle.seat_steps.specs.declared.next.Next.{Next}
use Rattle.seat_steps.specs.declared.next.Next.TheVariants.{Does, Opens, Defines, Resumes}
use Rattle.seat_steps.specs.declared.next.OpenRequest.{OpenRequest}
use Rattle.seat_steps.specs.declared.next.Stepped.{Stepped}
use Rattle.seat_steps.specs.declared.next.Stepped.TheVariants.{Went, Waits, Limit}
use Rattle.seat_steps.proofs.Standing.{load_runs, load_goes_on, resumes_stay}

module _ {M T V P Q R F G W E X O H U N : Type 0} (f : Facts T V P Q R F) (equal : SameIsEqual f)
    (talks : Talks T V P Q R E G W) (theories : Theories T V P X O H U N) (old new : State M T V P Q R F) (k : ℕ)
    (at : Stage Q T W (Cause M T V P Q R F)) where
  -- what a step came to stands open, where it came to this
  pub stays_as : (stepped this : Stepped (OpenRequest (Stage Q T W (Cause M T V P Q R F))
      (Next (Op M T V P Q R F) T (Progress T H U N) E))) → stepped ≡ this → StaysOpen f talks theories new k this →
      StaysOpen f talks theories new k stepped
  stays_as stepped this is stays =
      subst (λ (x : Stepped (OpenRequest (Stage Q T W (Cause M T V P Q R F))
      (Next (Op M T V P Q R F) T (Progress T H U N) E))). StaysOpen f talks theories new k x) (sym is) stays

  module _ (fits : (p : P) → IsOfTheory f p (theories.rules p)) (lawful : (p : P) → Lawful (theories.rules p))
      (laws : AreOf f talks) (exclusive : IsExclusive old.seats) where
    -- behind the Take of a load its loader begins
    begins_loading : (seats : ℕ) (task : T) → IsAfter f seats old → Enters f old new k (kept.Take (want.Load task)) →
        IsStanding f talks old k at (op.Load task) → GoesOnAt f talks theories new k at (Defines (begun task))
    begins_loading seats task is_after enters standing =
        let stood = standing_stays f equal talks old new (record { seat = k; kept = kept.Take (want.Load task) }) k at
        (op.Load task) exclusive enters (λ same. tt) standing in
        let later : IsAfter f seats new = subst (λ (s : State M T V P Q R F). IsAfter f seats s) (sym enters.is)
        (after-push f seats old (record { seat = k; kept = kept.Take (want.Load task) }) is_after
        (subst (λ (s : State M T V P Q R F). IsStep f old (record { seat = k; kept = kept.Take (want.Load task) }) s)
        enters.is enters)) in (
          task,
          (
            stood,
            (
              table_at f new,
              (
                [],
                open_is_loading f equal (theories.rules new.counts.program) (lawful new.counts.program)
                    (theories.runs new.counts.program) seats new k task later (fits new.counts.program)
                    (may_load f talks new k laws at task stood)
                    (take_opens f equal seats old new k task is_after enters),
              ),
            ),
          ),
        )

    -- a request that opens its load section stands open
    pub opens_goes : (words : Words T P Q R (Cause M T V P Q R F)) (seats : ℕ) (task : T) (taken : Taking)
        (stepped : Stepped (OpenRequest (Stage Q T W (Cause M T V P Q R F))
        (Next (Op M T V P Q R F) T (Progress T H U N) E))) → IsAfter f seats old →
        IsStanding f talks old k at (op.Load task) → Takes f words old new k (want.Load task) taken →
        OpensAt at task taken stepped → StaysOpen f talks theories new k stepped
    opens_goes words seats task (taking.Taken line) stepped is_after standing takes opens =
        stays_as stepped _ opens (begins_loading seats task is_after takes.0 standing)
    opens_goes words seats task (taking.Sought line) stepped is_after standing takes opens =
        stays_as stepped _ opens (standing_stays f equal talks old new
        (record { seat = k; kept = kept.Seek (want.Load task) }) k at (op.Load task) exclusive takes.1 (λ same. tt)
        standing)
    opens_goes words seats task (taking.Waits line) stepped is_after standing takes opens =
        stays_as stepped _ opens (subst (λ (s : State M T V P Q R F). IsStanding f talks s k at (op.Load task))
        (sym takes.0.same) standing)
    opens_goes words seats task taking.Full stepped is_after standing takes opens = stays_as stepped _ opens tt

  -- behind a Resume that is tried a request behind its load section stands there still
  pub tried_stays : (exclusive : IsExclusive old.seats) (line : List ℕ) (ended : Option E)
      (try : Tried M T V P Q R F) → Tries f old new k act.Resume line try →
      GoesOnAt f talks theories old k at (Resumes ended) → GoesOnAt f talks theories new k at (Resumes ended)
  tried_stays exclusive line ended (tried.Done told) tries going =
      resumes_stay f equal talks theories old new k at (record { seat = k; kept = kept.Resume }) exclusive tries.0
      (λ same. tt) ended going
  tried_stays exclusive line ended (tried.Waits told again) tries going =
      subst (λ (s : State M T V P Q R F). GoesOnAt f talks theories s k at (Resumes ended)) (sym tries.0.same) going
  tried_stays exclusive line ended tried.Full tries going =
      subst (λ (s : State M T V P Q R F). GoesOnAt f talks theories s k at (Resumes ended)) (sym tries.same) going

module _ {M T V P Q R F : Type 0} (f : Facts T V P Q R F) (old new : State M T V P Q R F) (k : ℕ) where
  -- an act that is tried is one entry of its seat, or none
  pub tries_move : (what : Act M T V P Q R F) (line : List ℕ) (try : Tried M T V P Q R F) →
      Tries f old new k what line try → IsMoved f old new k
  tries_move what line (tried.Done told) tries = inr (kept_of what, tries.0)
  tries_move what line (tried.Waits told again) tries = inl tries.0.same
  tries_move what line tried.Full tries = inl tries.same

  -- an exclusive seat is released: no guard refuses it
  pub release_passes : is_owner old.seats k ≡ true → verdict_of f old k kept.Release ≡ Passes
  release_passes owner = ap (λ b. verdict (NotExclusive when not b else None)) owner

-- a seat in a load section is exclusive
pub loading_owns : (s : Seats) (k : ℕ) → define_guard s k ≡ None → is_owner s k ≡ true
loading_owns s k passes =
    (and_parts (is_owner s k) (runs_at s k) (not-false _ (guard_false _ _ _ passes).0)).0

passes≢refused : Passes ≡ IsRefused → ⊥
passes≢refused is = cc is

passes≢limited : Passes ≡ IsLimited → ⊥
passes≢limited is = cc is

module _ {M T V P Q R F G W E X O H U N : Type 0} (f : Facts T V P Q R F) (equal : SameIsEqual f)
    (talks : Talks T V P Q R E G W) (words : Words T P Q R (Cause M T V P Q R F))
    (theories : Theories T V P X O H U N) (reason : Blamed T X O → E)
    (blames : (p : P) (task : T) → talks.blame p task ≡ reason (blame (theories.rules p) task))
    (old middle new : State M T V P Q R F) (k : ℕ) (at : Stage Q T W (Cause M T V P Q R F)) where
  -- the section of a seat, over the program in force before the step
  abbrev IsSection : T → (T → Option V) → List (T × V) → Progress T H U N → Type 0
  IsSection sought at_first made progress =
      IsLoading f (theories.rules old.counts.program) (theories.runs old.counts.program) sought at_first old k made
      progress

  -- what its loader made
  abbrev Makes : T → (T → Option V) → List (T × V) → State M T V P Q R F → Progress T H U N → Made T X O → Type 0
  Makes sought at_first made s later what =
      IsMade f (theories.rules old.counts.program) (theories.runs old.counts.program) sought at_first old s k made
      later what

  -- behind a define the request is in its load section still
  pub define_goes : (progress later : Progress T H U N) (task : T) → IsExclusive old.seats →
      (going : GoesOnAt f talks theories old k at (Defines progress)) →
      ((sought : T) (at_first : T → Option V) (made : List (T × V)) → IsSection sought at_first made progress →
      Makes sought at_first made new later (section.Defined task)) →
      GoesOnAt f talks theories new k at (Defines later)
  define_goes progress later task exclusive going makes =
      let made = makes going.0 going.1.1.0 going.1.1.1.0 going.1.1.1.1 in
      let entry : Entry M T V P Q R F = record { seat = k; kept = kept.Define task } in
      let goes = load_goes_on f equal talks theories old new k at entry exclusive made.0 (λ same. tt) going.0
      going.1.0 in (
        going.0,
        (
          standing_stays f equal talks old new entry k at (op.Load going.0) exclusive made.0 (λ same. tt) going.1.0,
          (
            going.1.1.0,
            (
              going.1.1.1.0 ++ (task, made.1.0) ∷ [],
              subst (λ (p : P). IsLoading f (theories.rules p) (theories.runs p) going.0 going.1.1.0 new k
                  (going.1.1.1.0 ++ (task, made.1.0) ∷ []) later) (sym goes.program) made.1.1.1,
            ),
          ),
        ),
      )

  -- it is one entry of its seat
  pub define_moves : (progress later : Progress T H U N) (task : T) →
      (going : GoesOnAt f talks theories old k at (Defines progress)) →
      ((sought : T) (at_first : T → Option V) (made : List (T × V)) → IsSection sought at_first made progress →
      Makes sought at_first made new later (section.Defined task)) → IsMoved f old new k
  define_moves progress later task going makes =
      inr (kept.Define task, (makes going.0 going.1.1.0 going.1.1.1.0 going.1.1.1.1).0)

  -- where the load has ended nothing changed before the close
  pub owns_still : (progress : Progress T H U N) → middle ≡ old →
      GoesOnAt f talks theories old k at (Defines progress) → is_owner middle.seats k ≡ true
  owns_still progress same going =
      ap (λ (s : State M T V P Q R F). is_owner s.seats k) same
      ∙ loading_owns old.seats k going.1.1.1.1.passes

  -- where the load is done, the table has its task
  pub loaded_resumes : (progress later : Progress T H U N) →
      (going : GoesOnAt f talks theories old k at (Defines progress)) →
      ((sought : T) (at_first : T → Option V) (made : List (T × V)) → IsSection sought at_first made progress →
      Makes sought at_first made middle later section.Loaded) → GoesOnAt f talks theories middle k at (Resumes None)
  loaded_resumes progress later going makes =
      let made = makes going.0 going.1.1.0 going.1.1.1.0 going.1.1.1.1 in
      let there : is_in f going.0 old.table ≡ true =
      sym (is_in_lookup f going.0 old.table) ∙ ap is_some made.2.1.1 in
      subst (λ (s : State M T V P Q R F). GoesOnAt f talks theories s k at (Resumes None)) (sym made.0)
      (going.0, (going.1.0, there))

  -- where it failed, its task isn't known
  pub failed_resumes : (progress later : Progress T H U N) (failure : Failure T X O) (error : E) →
      error ≡ reason (cause failure) → (going : GoesOnAt f talks theories old k at (Defines progress)) →
      ((sought : T) (at_first : T → Option V) (made : List (T × V)) → IsSection sought at_first made progress →
      Makes sought at_first made middle later (section.Failed failure)) →
      GoesOnAt f talks theories middle k at (Resumes (Some error))
  failed_resumes progress later failure error is going makes =
      let made = makes going.0 going.1.1.0 going.1.1.1.0 going.1.1.1.1 in
      subst (λ (s : State M T V P Q R F). GoesOnAt f talks theories s k at (Resumes (Some error))) (sym made.0)
      (going.0, (going.1.0, (made.2, is ∙ blamed old.counts.program going.0 failure made.3)))
    where
      blamed : (p : P) (sought : T) (failure : Failure T X O) → blame (theories.rules p) sought ≡ cause failure →
          reason (cause failure) ≡ talks.blame p sought
      blamed p sought failure blame_is = sym (blames p sought ∙ ap reason blame_is)

  -- the step of a load that is done
  pub done_goes : (stepped : Stepped (OpenRequest (Stage Q T W (Cause M T V P Q R F))
      (Next (Op M T V P Q R F) T (Progress T H U N) E))) (sought : T) (at_first : T → Option V) (made : List (T × V))
      (later : Progress T H U N) → Makes sought at_first made middle later section.Loaded →
      Closes f talks middle new k at None stepped →
      SectionGoes f talks words theories old new k at sought at_first made stepped
  done_goes stepped sought at_first made later makes closes =
      Is-Done makes.1 makes.2.0 makes.2.1.1
      (subst (λ (s : State M T V P Q R F). Closes f talks s new k at None stepped) makes.0 closes)

  -- the step of a load that failed
  pub failed_goes : (stepped : Stepped (OpenRequest (Stage Q T W (Cause M T V P Q R F))
      (Next (Op M T V P Q R F) T (Progress T H U N) E))) (sought : T) (at_first : T → Option V) (made : List (T × V))
      (later : Progress T H U N) (failure : Failure T X O) (error : E) → error ≡ reason (cause failure) →
      Makes sought at_first made middle later (section.Failed failure) →
      Closes f talks middle new k at (Some error) stepped →
      SectionGoes f talks words theories old new k at sought at_first made stepped
  failed_goes stepped sought at_first made later failure error is makes closes =
      let blamed : error ≡ talks.blame old.counts.program sought =
      is ∙ (sym (ap reason makes.3) ∙ sym (blames old.counts.program sought)) in
      Has-Failed makes.1 makes.2
      (subst (λ (e : E). Closes f talks old new k at (Some e) stepped) blamed
      (subst (λ (s : State M T V P Q R F). Closes f talks s new k at (Some error) stepped) makes.0 closes))

  -- a close is one entry of its seat
  pub close_moves : (ended : Option E) (stepped : Stepped (OpenRequest (Stage Q T W (Cause M T V P Q R F))
      (Next (Op M T V P Q R F) T (Progress T H U N) E))) → middle ≡ old →
      Closes f talks middle new k at ended stepped → IsMoved f old new k
  close_moves ended stepped same closes =
      inr (kept.Release, subst (λ (s : State M T V P Q R F). Enters f s new k kept.Release) same closes.0)

-- what a loader made by a theory, it made by the same theory
pub made_by : {M T V P Q R F X O H U N Y : Type 0} (f : Facts T V P Q R F) (rules : Y → Rules T V X O)
    (runs : Y → Runs T V X O H U N) (y z : Y) → y ≡ z → (old new : State M T V P Q R F) (k : ℕ)
    (progress later : Progress T H U N) (what : Made T X O) →
    ((sought : T) (at_first : T → Option V) (made : List (T × V)) →
    IsLoading f (rules y) (runs y) sought at_first old k made progress →
    IsMade f (rules y) (runs y) sought at_first old new k made later what) →
    (sought : T) (at_first : T → Option V) (made : List (T × V)) →
    IsLoading f (rules z) (runs z) sought at_first old k made progress →
    IsMade f (rules z) (runs z) sought at_first old new k made later what
made_by {M} {T} {V} {P} {Q} {R} {F} {X} {O} {H} {U} {N} {Y} f rules runs y z same old new k progress later what makes =
    subst (λ (x : Y). (sought : T) (at_first : T → Option V) (made : List (T × V)) →
    IsLoading f (rules x) (runs x) sought at_first old k made progress →
    IsMade f (rules x) (runs x) sought at_first old new k made later what) same makes
