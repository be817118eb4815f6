-- What one step of a seat's open request comes to, and the lines that tell it.
use Rattle.std.specs.Prelude.{◌≡◌, ℕ, Bool, true, false, List, [], ◌∷◌, Option, Some, None, map, codes}
use Rattle.outside.specs.declared.files.FileEntry.{FileEntry}
use Rattle.by_need.specs.Order.{Load}
use Rattle.by_need_loader.specs.Progress.{Progress, begun}
use Rattle.system_seats.specs.Seats.{row, is_releasing}
use Rattle.system_events.specs.declared.event.Act.TheVariants as act
use Rattle.system_events.specs.declared.event.Cause.{Cause}
use Rattle.system_events.specs.declared.event.Want.TheVariants as want
use Rattle.system_events.specs.declared.event.Kept.TheVariants as kept
use Rattle.system_events.specs.Facts.{Facts}
use Rattle.system_events.specs.State.{State}
use Rattle.load_sections.specs.Sections.{table_at, IsLoading, IsMade}
use Rattle.load_sections.specs.declared.section.Made.TheVariants as section
use Rattle.request_actor.specs.Order.{Goes}
use Rattle.request_actor.specs.Talks.{Talks}
use Rattle.request_actor.specs.declared.actor.Stage.{Stage}
use Rattle.request_actor.specs.declared.op.Op.{Op}
use Rattle.request_actor.specs.declared.op.Op.TheVariants as op
use Rattle.request_actor.specs.declared.op.Answered.{Answered}
use Rattle.request_actor.specs.declared.op.Answered.TheVariants as answer
use Rattle.replay_matter.specs.Words.{Words}
use Rattle.reload_matter.specs.Sources.{Sources}
use Rattle.trace_lines.specs.Steps.{seat_line, define_text, log_line}
use Rattle.seat_operations.specs.Coming.{Enters, Tries, Takes, Does as Comes-From}
use Rattle.seat_operations.specs.declared.came.Came.{Came}
use Rattle.seat_operations.specs.declared.came.Came.TheVariants as came
use Rattle.seat_operations.specs.declared.came.Taking.{Taking}
use Rattle.seat_operations.specs.declared.came.Taking.TheVariants as taking
use Rattle.seat_operations.specs.declared.came.Tried.{Tried}
use Rattle.seat_operations.specs.declared.came.Tried.TheVariants as tried
use Rattle.seat_steps.specs.Theories.{Theories}
use Rattle.seat_steps.specs.declared.next.Next.{Next}
use Rattle.seat_steps.specs.declared.next.Next.TheVariants.{Does, Opens, Defines, Resumes}
use Rattle.seat_steps.specs.declared.next.OpenRequest.{OpenRequest}
use Rattle.seat_steps.specs.declared.next.Stepped.{Stepped}
use Rattle.seat_steps.specs.declared.next.Stepped.TheVariants.{Went, Waits, Limit}

module _ {M T V P Q R F L E : Type 0} where
  -- what a request does next that was asked for an operation: a load opens its section, and behind the end is nothing
  abbrev pub next_for : Op M T V P Q R F → Option (Next (Op M T V P Q R F) T L E)
  next_for (op.Load task) = Some (Opens task)
  next_for op.Finished = None
  next_for asked = Some (Does asked)

-- an open request that does this next, if it does anything
abbrev pub opened_at : {A N : Type 0} → A → Option N → Option (OpenRequest A N)
opened_at at None = None
opened_at at (Some next) = Some (record { actor = at; next = next })

module _ {M T V P Q R F G W L E : Type 0} (talks : Talks T V P Q R E G W) where
  -- These lines tell the step, and behind its answer the request goes on in its order: it is asked for an operation
  -- next, or is over.
  pub record Answers (p : P) (at : Stage Q T W (Cause M T V P Q R F)) (answered : Answered V E (Cause M T V P Q R F))
      (lines : List (List ℕ))
      (stepped : Stepped (OpenRequest (Stage Q T W (Cause M T V P Q R F)) (Next (Op M T V P Q R F) T L E))) :
      Type 0 where
    pub asked : Op M T V P Q R F
    pub later : Stage Q T W (Cause M T V P Q R F)
    pub goes : Goes talks p at answered asked later
    pub is : stepped ≡ Went lines (opened_at later (next_for asked))

  -- What the step at an operation comes to. The program is that behind it.
  abbrev pub Comes : P → Stage Q T W (Cause M T V P Q R F) →
      Came (Op M T V P Q R F) (Answered V E (Cause M T V P Q R F)) →
      Stepped (OpenRequest (Stage Q T W (Cause M T V P Q R F)) (Next (Op M T V P Q R F) T L E)) → Type 0
  Comes p at (came.Answered line answered) stepped = Answers p at answered (line ∷ []) stepped
  Comes p at (came.Sought line again) stepped =
      stepped ≡ Went (line ∷ []) (Some (record { actor = at; next = Does again }))
  Comes p at (came.Waits line again) stepped = stepped ≡ Waits line (record { actor = at; next = Does again })
  Comes p at came.Limit stepped = stepped ≡ Limit

module _ {M T V P Q R F W H U N E : Type 0} where
  -- What the step that opens a load section comes to. Where the seat is exclusive, the load begins.
  abbrev pub OpensAt : Stage Q T W (Cause M T V P Q R F) → T → Taking →
      Stepped (OpenRequest (Stage Q T W (Cause M T V P Q R F)) (Next (Op M T V P Q R F) T (Progress T H U N) E)) →
      Type 0
  OpensAt at task (taking.Taken line) stepped =
      stepped ≡ Went (line ∷ []) (Some (record { actor = at; next = Defines (begun task) }))
  OpensAt at task (taking.Sought line) stepped =
      stepped ≡ Went (line ∷ []) (Some (record { actor = at; next = Opens task }))
  OpensAt at task (taking.Waits line) stepped = stepped ≡ Waits line (record { actor = at; next = Opens task })
  OpensAt at task taking.Full stepped = stepped ≡ Limit

module _ {V E C : Type 0} where
  -- the answer of a load that failed for this reason, or was done
  abbrev pub load_answer : Option E → Answered V E C
  load_answer None = answer.Done
  load_answer (Some error) = answer.Failed error

module _ {M T V P Q R F G W L E : Type 0} (f : Facts T V P Q R F) (talks : Talks T V P Q R E G W) where
  -- what the step that closes a load section comes to, by whether the seat waits behind its release
  abbrev pub ClosedAt : P → ℕ → Stage Q T W (Cause M T V P Q R F) → Option E → Bool →
      Stepped (OpenRequest (Stage Q T W (Cause M T V P Q R F)) (Next (Op M T V P Q R F) T L E)) → Type 0
  ClosedAt p k at ended true stepped =
      stepped ≡ Went (seat_line k (codes "release waits") ∷ []) (Some (record { actor = at; next = Resumes ended }))
  ClosedAt p k at ended false stepped =
      Answers talks p at (load_answer ended) (seat_line k (codes "release") ∷ []) stepped

  -- seat k closes its load section, whose load has ended so
  abbrev pub Closes : State M T V P Q R F → State M T V P Q R F → ℕ → Stage Q T W (Cause M T V P Q R F) → Option E →
      Stepped (OpenRequest (Stage Q T W (Cause M T V P Q R F)) (Next (Op M T V P Q R F) T L E)) → Type 0
  Closes old new k at ended stepped =
      Enters f old new k kept.Release
      × ClosedAt new.counts.program k at ended (is_releasing (row new.seats k).phase) stepped

  -- what the step of a request comes to that resumes behind its load section
  abbrev pub ResumesAt : P → Stage Q T W (Cause M T V P Q R F) → Option E → Tried M T V P Q R F →
      Stepped (OpenRequest (Stage Q T W (Cause M T V P Q R F)) (Next (Op M T V P Q R F) T L E)) → Type 0
  ResumesAt p at ended (tried.Done line) stepped = Answers talks p at (load_answer ended) (line ∷ []) stepped
  ResumesAt p at ended (tried.Waits line again) stepped =
      stepped ≡ Waits line (record { actor = at; next = Resumes ended })
  ResumesAt p at ended tried.Full stepped = stepped ≡ Limit

module _ {T P Q R C : Type 0} (words : Words T P Q R C) where
  -- the lines of a define: `1 define A`, and `log TEXT` for each text that it logs
  abbrev pub define_lines : P → ℕ → T → List (List ℕ)
  define_lines p k task = seat_line k (define_text (words.task_name task)) ∷ map log_line (words.logs p task)

-- What a step comes to in a load section of seat k that has defined these values since it opened over the table
-- `at_first`. Defines: the next task of the load is defined. Is-Done, Has-Failed: the load has ended, and the section
-- closes; all that it has defined is what a load of the sought task defines, in its order.
pub data SectionGoes {M T V P Q R F G W E X O H U N : Type 0} (f : Facts T V P Q R F)
    (talks : Talks T V P Q R E G W) (words : Words T P Q R (Cause M T V P Q R F)) (theories : Theories T V P X O H U N)
    (old new : State M T V P Q R F) (k : ℕ) (at : Stage Q T W (Cause M T V P Q R F)) (sought : T)
    (at_first : T → Option V) (made : List (T × V))
    (stepped : Stepped (OpenRequest (Stage Q T W (Cause M T V P Q R F))
    (Next (Op M T V P Q R F) T (Progress T H U N) E))) : Type 0 where
  Next-Define : (task : T) (later : Progress T H U N) →
      IsMade f (theories.rules old.counts.program) (theories.runs old.counts.program) sought at_first old new k made
      later (section.Defined task) →
      stepped ≡ Went (define_lines words old.counts.program k task)
      (Some (record { actor = at; next = Defines later })) →
      SectionGoes f talks words theories old new k at sought at_first made stepped
  Is-Done : Load (theories.rules old.counts.program) at_first sought made (table_at f old) true →
      (value : V) → table_at f old sought ≡ Some value → Closes f talks old new k at None stepped →
      SectionGoes f talks words theories old new k at sought at_first made stepped
  Has-Failed : Load (theories.rules old.counts.program) at_first sought made (table_at f old) false →
      f.known old.counts.program sought ≡ None →
      Closes f talks old new k at (Some (talks.blame old.counts.program sought)) stepped →
      SectionGoes f talks words theories old new k at sought at_first made stepped

module _ {M T V P Q R F G W L E : Type 0} (f : Facts T V P Q R F) (talks : Talks T V P Q R E G W)
    (words : Words T P Q R (Cause M T V P Q R F)) (sources : Sources P F) where
  -- the step at an operation
  abbrev pub Operates : State M T V P Q R F → State M T V P Q R F → List FileEntry → ℕ →
      Stage Q T W (Cause M T V P Q R F) → Op M T V P Q R F →
      Stepped (OpenRequest (Stage Q T W (Cause M T V P Q R F)) (Next (Op M T V P Q R F) T L E)) → Type 0
  Operates old new files k at asked stepped = (come : Came (Op M T V P Q R F) (Answered V E (Cause M T V P Q R F)))
      × (Comes-From f words sources old new files k at asked come × Comes talks new.counts.program at come stepped)

module _ {M T V P Q R F W H U N E : Type 0} (f : Facts T V P Q R F) (words : Words T P Q R (Cause M T V P Q R F)) where
  -- seat k opens the load section of a task: it is exclusive for it; or seeks to be; or waits
  abbrev pub OpensSection : State M T V P Q R F → State M T V P Q R F → ℕ → Stage Q T W (Cause M T V P Q R F) → T →
      Stepped (OpenRequest (Stage Q T W (Cause M T V P Q R F)) (Next (Op M T V P Q R F) T (Progress T H U N) E)) →
      Type 0
  OpensSection old new k at task stepped =
      (take : Taking) × (Takes f words old new k (want.Load task) take × OpensAt at task take stepped)

module _ {M T V P Q R F G W E X O H U N : Type 0} (f : Facts T V P Q R F) (talks : Talks T V P Q R E G W)
    (words : Words T P Q R (Cause M T V P Q R F)) (theories : Theories T V P X O H U N) where
  -- seat k goes on in its load section: by the next define of the load that it was opened for, or by its close
  abbrev pub GoesOnLoading : State M T V P Q R F → State M T V P Q R F → ℕ → Stage Q T W (Cause M T V P Q R F) →
      Progress T H U N →
      Stepped (OpenRequest (Stage Q T W (Cause M T V P Q R F)) (Next (Op M T V P Q R F) T (Progress T H U N) E)) →
      Type 0
  GoesOnLoading old new k at progress stepped = (sought : T) (at_first : T → Option V) (made : List (T × V)) →
      IsLoading f (theories.rules old.counts.program) (theories.runs old.counts.program) sought at_first old k made
      progress → SectionGoes f talks words theories old new k at sought at_first made stepped

module _ {M T V P Q R F G W L E : Type 0} (f : Facts T V P Q R F) (talks : Talks T V P Q R E G W) where
  -- seat k waits no longer behind its load section, whose load has ended so; or it does
  abbrev pub ResumesBehind : State M T V P Q R F → State M T V P Q R F → ℕ → Stage Q T W (Cause M T V P Q R F) →
      Option E → Stepped (OpenRequest (Stage Q T W (Cause M T V P Q R F)) (Next (Op M T V P Q R F) T L E)) → Type 0
  ResumesBehind old new k at ended stepped = (try : Tried M T V P Q R F)
      × (Tries f old new k act.Resume (seat_line k (codes "resume")) try
      × ResumesAt f talks new.counts.program at ended try stepped)

module _ {M T V P Q R F G W E X O H U N : Type 0} (f : Facts T V P Q R F) (talks : Talks T V P Q R E G W)
    (words : Words T P Q R (Cause M T V P Q R F)) (sources : Sources P F) (theories : Theories T V P X O H U N) where
  -- what a step of seat k comes to, whose request is at this stage, over these files
  abbrev pub StepsAt : State M T V P Q R F → State M T V P Q R F → List FileEntry → ℕ →
      Stage Q T W (Cause M T V P Q R F) → Next (Op M T V P Q R F) T (Progress T H U N) E →
      Stepped (OpenRequest (Stage Q T W (Cause M T V P Q R F)) (Next (Op M T V P Q R F) T (Progress T H U N) E)) →
      Type 0
  StepsAt old new files k at (Does asked) stepped = Operates f talks words sources old new files k at asked stepped
  StepsAt old new files k at (Opens task) stepped = OpensSection f words old new k at task stepped
  StepsAt old new files k at (Defines progress) stepped =
      GoesOnLoading f talks words theories old new k at progress stepped
  StepsAt old new files k at (Resumes ended) stepped = ResumesBehind f talks old new k at ended stepped

  -- the same of an open request
  abbrev pub Steps : State M T V P Q R F → State M T V P Q R F → List FileEntry → ℕ →
      OpenRequest (Stage Q T W (Cause M T V P Q R F)) (Next (Op M T V P Q R F) T (Progress T H U N) E) →
      Stepped (OpenRequest (Stage Q T W (Cause M T V P Q R F)) (Next (Op M T V P Q R F) T (Progress T H U N) E)) →
      Type 0
  Steps old new files k request stepped = StepsAt old new files k request.actor request.next stepped
