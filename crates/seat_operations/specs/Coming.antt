-- What a step of a seat comes to at each operation of its request, and the line that tells it.
use Rattle.std.specs.Prelude.{◌≡◌, ◌≢◌, ℕ, Bool, true, false, List, Option, Some, None}
use Rattle.std.specs.Prelude.{Ok, Err, codes}
use Rattle.outside.specs.declared.files.FileEntry.{FileEntry}
use Rattle.outside.specs.Tree.{stamps_of}
use Rattle.system_seats.specs.Seats.{row, is_releasing}
use Rattle.system_events.specs.declared.event.Act.{Act}
use Rattle.system_events.specs.declared.event.Cause.{Cause}
use Rattle.system_events.specs.declared.event.Cause.TheVariants.{Program}
use Rattle.system_events.specs.declared.event.Want.{Want}
use Rattle.system_events.specs.declared.event.Want.TheVariants.{Load, Unload}
use Rattle.system_events.specs.declared.event.Kept.{Kept}
use Rattle.system_events.specs.declared.event.Kept.TheVariants as kept
use Rattle.system_events.specs.Facts.{Facts}
use Rattle.system_events.specs.Guards.{guard_of}
use Rattle.system_events.specs.State.{State}
use Rattle.system_events.specs.Steps.{kept_of}
use Rattle.system_events.specs.Legal.{IsStep}
use Rattle.system_core.specs.Tables.{lookup}
use Rattle.request_actor.specs.Order.{request_at_stage}
use Rattle.request_actor.specs.declared.actor.Stage.{Stage}
use Rattle.request_actor.specs.declared.op.Op.{Op}
use Rattle.request_actor.specs.declared.op.Op.TheVariants as op
use Rattle.request_actor.specs.declared.op.Answered.{Answered}
use Rattle.request_actor.specs.declared.op.Answered.TheVariants as answer
use Rattle.seat_requests.specs.Trying.{Verdict, verdict, Passes, IsRefused, IsLimited}
use Rattle.replay_matter.specs.Words.{Words}
use Rattle.reload_matter.specs.Sources.{Sources}
use Rattle.trace_lines.specs.Steps.{seat_line, found_text, missing_text, seek_load_text, take_load_text, end_text}
use Rattle.trace_lines.specs.Steps.{refuse_text, reload_text}
use Rattle.seat_operations.specs.declared.came.Came.{Came}
use Rattle.seat_operations.specs.declared.came.Came.TheVariants.{Answered as Is-Answered, Sought, Waits, Limit}
use Rattle.seat_operations.specs.declared.came.Taking.{Taking}
use Rattle.seat_operations.specs.declared.came.Taking.TheVariants as taking
use Rattle.seat_operations.specs.declared.came.Tried.{Tried}
use Rattle.seat_operations.specs.declared.came.Tried.TheVariants as tried

-- the line of a seat that waits: `2 waits`
abbrev pub waits_line : ℕ → List ℕ
waits_line k = seat_line k (codes "waits")

module _ {M T V P Q R F : Type 0} (f : Facts T V P Q R F) where
  -- what the guards of an entry of seat k say
  abbrev pub verdict_of : State M T V P Q R F → ℕ → Kept M T V P Q R F → Verdict
  verdict_of s k entry = verdict (guard_of f s k entry)

  -- seat k makes this entry
  abbrev pub Enters : State M T V P Q R F → State M T V P Q R F → ℕ → Kept M T V P Q R F → Type 0
  Enters old new k entry = IsStep f old (record { seat = k; kept = entry }) new

  -- Nothing changes, since a guard that is no limit refuses the entry, and the line says that the seat waits.
  pub record IsWaiting (old new : State M T V P Q R F) (k : ℕ) (entry : Kept M T V P Q R F) (line : List ℕ) :
      Type 0 where
    pub same : new ≡ old
    pub refused : verdict_of old k entry ≡ IsRefused
    pub told : line ≡ waits_line k

  -- nothing changes, since a limit refuses the entry
  pub record IsAtLimit (old new : State M T V P Q R F) (k : ℕ) (entry : Kept M T V P Q R F) : Type 0 where
    pub same : new ≡ old
    pub limited : verdict_of old k entry ≡ IsLimited

  -- What comes of an act of seat k that this line tells: its entry; or the seat waits; or a limit is met.
  abbrev pub Tries : State M T V P Q R F → State M T V P Q R F → ℕ → Act M T V P Q R F → List ℕ →
      Tried M T V P Q R F → Type 0
  Tries old new k act line (tried.Done told) = Enters old new k (kept_of act) × (told ≡ line)
  Tries old new k act line (tried.Waits told again) = IsWaiting old new k (kept_of act) told × (again ≡ act)
  Tries old new k act line tried.Full = IsAtLimit old new k (kept_of act)

module _ {M T V P Q R F E : Type 0} (f : Facts T V P Q R F) where
  -- An operation that is one event of the seat: it is entered, told by this text and answered by Done; or the seat
  -- waits and the operation is asked for still; or a limit is met.
  abbrev pub Acts : State M T V P Q R F → State M T V P Q R F → ℕ → Kept M T V P Q R F → List ℕ →
      Op M T V P Q R F → Came (Op M T V P Q R F) (Answered V E (Cause M T V P Q R F)) → Type 0
  Acts old new k entry text asked (Is-Answered line answered) =
      Enters f old new k entry × (line ≡ seat_line k text) × (answered ≡ answer.Done)
  Acts old new k entry text asked (Sought line again) = ⊥
  Acts old new k entry text asked (Waits line again) = IsWaiting f old new k entry line × (again ≡ asked)
  Acts old new k entry text asked Limit = IsAtLimit f old new k entry

module _ {T V P Q R F : Type 0} {C : Type 0} (words : Words T P Q R C) where
  -- `take unload`, or `take load` and the task
  abbrev pub take_text : {M : Type 0} → Want M T V P Q R F → List ℕ
  take_text (Load task) = take_load_text (words.task_name task)
  take_text Unload = codes "take unload"

  -- `seek unload`, or `seek load` and the task
  abbrev pub seek_text : {M : Type 0} → Want M T V P Q R F → List ℕ
  seek_text (Load task) = seek_load_text (words.task_name task)
  seek_text Unload = codes "seek unload"

module _ {M T V P Q R F C : Type 0} (f : Facts T V P Q R F) (words : Words T P Q R C) where
  -- What a step comes to that is to make seat k exclusive for a want: it is; where that is busy it seeks to be, if the
  -- guards of a Seek allow it; else it waits.
  abbrev pub Takes : State M T V P Q R F → State M T V P Q R F → ℕ → Want M T V P Q R F → Taking → Type 0
  Takes old new k want (taking.Taken line) =
      Enters f old new k (kept.Take want) × (line ≡ seat_line k (take_text words want))
  Takes old new k want (taking.Sought line) =
      (verdict_of f old k (kept.Take want) ≡ IsRefused) × Enters f old new k (kept.Seek want)
      × (line ≡ seat_line k (seek_text words want))
  Takes old new k want (taking.Waits line) =
      IsWaiting f old new k (kept.Take want) line × (verdict_of f old k (kept.Seek want) ≢ Passes)
  Takes old new k want taking.Full = IsAtLimit f old new k (kept.Take want)

module _ {M T V P Q R F E : Type 0} (f : Facts T V P Q R F) (words : Words T P Q R (Cause M T V P Q R F)) where
  -- The operation Take: it is answered where the seat is exclusive, and asked for still where it seeks or waits.
  abbrev pub TakesWant : State M T V P Q R F → State M T V P Q R F → ℕ → Want M T V P Q R F →
      Came (Op M T V P Q R F) (Answered V E (Cause M T V P Q R F)) → Type 0
  TakesWant old new k want (Is-Answered line answered) =
      Takes f words old new k want (taking.Taken line) × (answered ≡ answer.Done)
  TakesWant old new k want (Sought line again) =
      Takes f words old new k want (taking.Sought line) × (again ≡ op.Take want)
  TakesWant old new k want (Waits line again) =
      Takes f words old new k want (taking.Waits line) × (again ≡ op.Take want)
  TakesWant old new k want Limit = Takes f words old new k want taking.Full

module _ {M T V P Q R F E : Type 0} where
  -- what a check tells and answers, by the limit that the stamps exceed, if they do, and whether they are in force
  abbrev pub checked : Option F → Bool → List ℕ × Answered V E (Cause M T V P Q R F)
  checked (Some fault) same = (codes "check differs", answer.Fault (Program fault))
  checked None true = (codes "check same", answer.Same)
  checked None false = (codes "check differs", answer.Differs)

  -- what a look tells and answers, by the value that the table has of the task, if it has one
  abbrev pub looked : List ℕ → Option V → List ℕ × Answered V E (Cause M T V P Q R F)
  looked name (Some value) = (found_text name, answer.Found value)
  looked name None = (missing_text name, answer.Missing)

  -- the operation is answered, and told by this text
  abbrev pub Tells : ℕ → List ℕ × Answered V E (Cause M T V P Q R F) →
      Came (Op M T V P Q R F) (Answered V E (Cause M T V P Q R F)) → Type 0
  Tells k told came = came ≡ Is-Answered (seat_line k told.0) told.1

module _ {M T V P Q R F E : Type 0} (f : Facts T V P Q R F) (sources : Sources P F) where
  -- The operation Check reads the stamps of the files, and changes nothing.
  abbrev pub Checks : State M T V P Q R F → State M T V P Q R F → List FileEntry → ℕ →
      Came (Op M T V P Q R F) (Answered V E (Cause M T V P Q R F)) → Type 0
  Checks old new files k came =
      (new ≡ old)
      × Tells k
      (checked (sources.limit (stamps_of files)) (sources.has_stamps old.counts.program (stamps_of files))) came

  -- What a Reload comes to by its answer. Done: the program of the files is in force now. Same: it was refused, its
  -- stamps being those in force. Fault: the files give no program.
  abbrev pub Reloaded : State M T V P Q R F → State M T V P Q R F → List FileEntry → ℕ → List ℕ →
      Answered V E (Cause M T V P Q R F) → Type 0
  Reloaded old new files k line answer.Done = (program : P) × (sources.Builds files (Ok program)
      × Enters f old new k (kept.Reload program) × (line ≡ seat_line k (reload_text new.counts.generation)))
  Reloaded old new files k line answer.Same = (program : P) × (sources.Builds files (Ok program)
      × (new ≡ old) × (verdict_of f old k (kept.Reload program) ≡ IsRefused)
      × (line ≡ seat_line k (codes "reload none")))
  Reloaded old new files k line (answer.Fault cause) = (fault : F) × (sources.Builds files (Err fault)
      × (new ≡ old) × (cause ≡ Program fault) × (line ≡ seat_line k (codes "reload none")))
  Reloaded old new files k line _ = ⊥

  -- The operation Reload reads the files again.
  abbrev pub Reloads : State M T V P Q R F → State M T V P Q R F → List FileEntry → ℕ →
      Came (Op M T V P Q R F) (Answered V E (Cause M T V P Q R F)) → Type 0
  Reloads old new files k (Is-Answered line answered) = Reloaded old new files k line answered
  Reloads old new files k (Sought line again) = ⊥
  Reloads old new files k (Waits line again) = ⊥
  Reloads old new files k Limit = (program : P) × (sources.Builds files (Ok program)
      × IsAtLimit f old new k (kept.Reload program))

module _ {M T V P Q R F E : Type 0} where
  -- what a release tells and answers, by whether the seat waits behind it
  abbrev pub released : Bool → List ℕ × Answered V E (Cause M T V P Q R F)
  released true = (codes "release waits", answer.Waits)
  released false = (codes "release", answer.Done)

module _ {M T V P Q R F E : Type 0} (f : Facts T V P Q R F) where
  -- The operation Release: behind it the seat may have to wait.
  abbrev pub Releases : State M T V P Q R F → State M T V P Q R F → ℕ →
      Came (Op M T V P Q R F) (Answered V E (Cause M T V P Q R F)) → Type 0
  Releases old new k (Is-Answered line answered) =
      Enters f old new k kept.Release
      × Tells k (released (is_releasing (row new.seats k).phase)) (Is-Answered line answered)
  Releases old new k (Sought line again) = ⊥
  Releases old new k (Waits line again) = IsWaiting f old new k kept.Release line × (again ≡ op.Release)
  Releases old new k Limit = IsAtLimit f old new k kept.Release

module _ {M T V P Q R F E : Type 0} (f : Facts T V P Q R F) (words : Words T P Q R (Cause M T V P Q R F)) where
  -- The operation Look finds what the table has of a task, and changes nothing.
  abbrev pub Looks : State M T V P Q R F → State M T V P Q R F → ℕ → T →
      Came (Op M T V P Q R F) (Answered V E (Cause M T V P Q R F)) → Type 0
  Looks old new k task came =
      (new ≡ old) × Tells k (looked (words.task_name task) (lookup f task old.table)) came

module _ {M T V P Q R F : Type 0} (f : Facts T V P Q R F) (words : Words T P Q R (Cause M T V P Q R F)) where
  -- the text of an End: the status and the body of the reply, and the number of the generation in force
  abbrev pub end_of : State M T V P Q R F → R → List ℕ
  end_of s reply = end_text (words.status reply) s.counts.generation (words.body reply)

  -- the text of a Refuse: the status and the body of the reply that tells its cause
  abbrev pub refuse_of : Cause M T V P Q R F → List ℕ
  refuse_of cause = refuse_text (words.status (words.refusal cause)) (words.body (words.refusal cause))

module _ {M T V P Q R F E W : Type 0} (f : Facts T V P Q R F) (words : Words T P Q R (Cause M T V P Q R F))
    (sources : Sources P F) where
  -- What a step of seat k comes to at an operation of its request, over these files. A load takes more than one step,
  -- and behind the end there is none.
  abbrev pub Does : State M T V P Q R F → State M T V P Q R F → List FileEntry → ℕ →
      Stage Q T W (Cause M T V P Q R F) → Op M T V P Q R F →
      Came (Op M T V P Q R F) (Answered V E (Cause M T V P Q R F)) → Type 0
  Does old new files k at op.Share came = Acts f old new k kept.Share (codes "share") op.Share came
  Does old new files k at op.Check came = Checks f sources old new files k came
  Does old new files k at (op.Take want) came = TakesWant f words old new k want came
  Does old new files k at op.Reload came = Reloads f sources old new files k came
  Does old new files k at op.Release came = Releases f old new k came
  Does old new files k at op.Resume came = Acts f old new k kept.Resume (codes "resume") op.Resume came
  Does old new files k at op.Begin came = (q : Q) × ((request_at_stage at ≡ Some q)
      × Acts f old new k (kept.Begin q) (codes "begin") op.Begin came)
  Does old new files k at (op.Look task) came = Looks f words old new k task came
  Does old new files k at (op.Load task) came = ⊥
  Does old new files k at (op.End reply) came =
      Acts f old new k (kept.End reply) (end_of f words old reply) (op.End reply) came
  Does old new files k at (op.Refuse cause) came =
      Acts f old new k (kept.Refuse cause) (refuse_of f words cause) (op.Refuse cause) came
  Does old new files k at op.Unshare came = Acts f old new k kept.Unshare (codes "unshare") op.Unshare came
  Does old new files k at op.Finished came = ⊥
