-- What each event makes of the state, and the conditions that its caller keeps.
use Rattle.std.specs.Prelude.{◌≡◌, ℕ, ◌+◌, true, List, [], ◌∷◌, ◌++◌, Option, Some, None, is_some}
use Rattle.std.specs.Prelude.{Contains}
use Rattle.system_seats.specs.Seats.{Seats}
use Rattle.system_seats.specs.Effects.{after_share, after_unshare, after_yield, after_retake, after_seek, after_take}
use Rattle.system_seats.specs.Effects.{after_release, after_resume, after_begin, after_end}
use Rattle.system_events.specs.declared.event.Want.{Want}
use Rattle.system_events.specs.declared.event.Want.TheVariants.{Load, Unload}
use Rattle.system_events.specs.declared.event.Cause.{Cause}
use Rattle.system_events.specs.declared.event.Cause.TheVariants.{Program, Memory}
use Rattle.system_events.specs.declared.event.Kept.{Kept}
use Rattle.system_events.specs.declared.event.Kept.TheVariants.{Share, Unshare, Yield, Retake, Seek, Take, Release}
use Rattle.system_events.specs.declared.event.Kept.TheVariants.{Resume, Define, Reload, Begin, End, Refuse}
use Rattle.system_events.specs.declared.event.Act.{Act}
use Rattle.system_events.specs.declared.event.Act.TheVariants.{Share as Act-Share, Unshare as Act-Unshare}
use Rattle.system_events.specs.declared.event.Act.TheVariants.{Yield as Act-Yield, Retake as Act-Retake}
use Rattle.system_events.specs.declared.event.Act.TheVariants.{Seek as Act-Seek, Take as Act-Take}
use Rattle.system_events.specs.declared.event.Act.TheVariants.{Release as Act-Release, Resume as Act-Resume}
use Rattle.system_events.specs.declared.event.Act.TheVariants.{Define as Act-Define, Reload as Act-Reload}
use Rattle.system_events.specs.declared.event.Act.TheVariants.{Begin as Act-Begin, End as Act-End, Refuse as Act-Refuse}
use Rattle.system_events.specs.declared.event.Counts.{Counts}
use Rattle.system_events.specs.Facts.{Facts, Needs, capped}
use Rattle.system_events.specs.State.{State, next_place, is_in, purpose_of, section_want, running_request}
use Rattle.system_events.specs.Guards.{sum_bytes, changed_with}

-- WHAT EACH EVENT DOES

module _ {M T V P Q R F : Type 0} where
  -- for want of memory the seat's request ends; for any other cause the seat ran none
  abbrev pub seats_after_refuse : Seats → ℕ → Cause M T V P Q R F → Seats
  seats_after_refuse s k Memory = after_end s k
  seats_after_refuse s k _ = s

  -- the seats after an entry at this place
  abbrev pub seats_after : Seats → ℕ → ℕ → Kept M T V P Q R F → Seats
  seats_after s place k Share = after_share s k
  seats_after s place k Unshare = after_unshare s k
  seats_after s place k Yield = after_yield s k
  seats_after s place k Retake = after_retake s k
  seats_after s place k (Seek want) = after_seek s k (purpose_of want) place
  seats_after s place k (Take want) = after_take s k place
  seats_after s place k Release = after_release s k
  seats_after s place k Resume = after_resume s k
  seats_after s place k (Define task) = s
  seats_after s place k (Reload program) = s
  seats_after s place k (Begin request) = after_begin s k place
  seats_after s place k (End reply) = after_end s k
  seats_after s place k (Refuse cause) = seats_after_refuse s k cause

-- the task with its value, if it has one
abbrev pub pair_of : {T V : Type 0} → T → Option V → List (T × V)
pair_of task None = []
pair_of task (Some value) = (task, value) ∷ []

module _ {M T V P Q R F : Type 0} (f : Facts T V P Q R F) where
  -- the table gains a defined task with the value that is known of it, and is empty after a Reload
  abbrev pub table_after : P → List (T × V) → Kept M T V P Q R F → List (T × V)
  table_after program table (Define task) = table ++ pair_of task (f.known program task)
  table_after program table (Reload next) = []
  table_after program table _ = table

  -- a refusal counts as a request, unless it is for want of memory
  abbrev pub counts_after_refuse : Counts M T V P Q R F → Cause M T V P Q R F → Counts M T V P Q R F
  counts_after_refuse c Memory = c
  counts_after_refuse c _ = record c { requests = c.requests + 1 }

  -- the counts after an entry
  abbrev pub counts_after : Counts M T V P Q R F → Kept M T V P Q R F → Counts M T V P Q R F
  counts_after c (Reload program) = record {
    generation = c.generation + 1;
    program = program;
    requests = c.requests;
    reply_bytes = c.reply_bytes;
    changed_bytes = changed_with f c program;
  }
  counts_after c (Begin request) = record c { requests = c.requests + 1 }
  counts_after c (End reply) = record c { reply_bytes = sum_bytes c.reply_bytes (capped (f.reply_bytes reply)) }
  counts_after c (Refuse cause) = counts_after_refuse c cause
  counts_after c _ = c

  -- the state after an entry of a seat
  abbrev pub effect : State M T V P Q R F → ℕ → Kept M T V P Q R F → State M T V P Q R F
  effect s k kept = record {
    history = s.history ++ (record { seat = k; kept = kept }) ∷ [];
    seats = seats_after s.seats (next_place s) k kept;
    table = table_after s.counts.program s.table kept;
    counts = counts_after s.counts kept;
  }

-- THE CALLER'S CONDITIONS

module _ {M T V P Q R F : Type 0} (f : Facts T V P Q R F) where
  -- a load is of a task of the program in force
  abbrev pub IsTask : State M T V P Q R F → Want M T V P Q R F → Type 0
  IsTask s (Load task) = Contains (f.tasks s.counts.program) task
  IsTask s Unload = Unit {0}

  -- the reply is the request's on the program in force, and the table has each known task that its run asked for
  abbrev pub IsReply : State M T V P Q R F → Q → R → Type 0
  IsReply s request reply =
      (reply ≡ f.reply s.counts.program request)
      × ((task : T) → Contains (f.request_asked s.counts.program request) task →
      is_some (f.known s.counts.program task) ≡ true → is_in f task s.table ≡ true)

  -- the task is known of the program in force, and the seat's section is a load of a task that needs it
  abbrev pub IsNeeded : State M T V P Q R F → ℕ → T → Type 0
  IsNeeded s k task =
      (is_some (f.known s.counts.program task) ≡ true)
      × ((sought : T) × ((section_want s k ≡ Some (Load sought)) × Needs (f.asked s.counts.program) sought task))

  -- a fault that refuses a request holds no want of memory
  abbrev pub IsCause : Cause M T V P Q R F → Type 0
  IsCause (Program fault) = f.IsFault fault
  IsCause _ = Unit {0}

  -- the condition of the event's row
  abbrev pub Condition : State M T V P Q R F → ℕ → Kept M T V P Q R F → Type 0
  Condition s k (Seek want) = IsTask s want
  Condition s k (Take want) = IsTask s want
  Condition s k (Define task) = IsNeeded s k task
  Condition s k (Reload program) = f.IsProgram program
  Condition s k (Begin request) = f.IsRequest request
  Condition s k (End reply) = (request : Q) → running_request s k ≡ Some request → IsReply s request reply
  Condition s k (Refuse cause) = IsCause cause
  Condition s k _ = Unit {0}

-- ACTS

module _ {M T V P Q R F : Type 0} where
  -- what the history keeps of an act
  abbrev pub kept_of : Act M T V P Q R F → Kept M T V P Q R F
  kept_of Act-Share = Share
  kept_of Act-Unshare = Unshare
  kept_of Act-Yield = Yield
  kept_of Act-Retake = Retake
  kept_of (Act-Seek want) = Seek want
  kept_of (Act-Take want) = Take want
  kept_of Act-Release = Release
  kept_of Act-Resume = Resume
  kept_of (Act-Define task value) = Define task
  kept_of (Act-Reload program) = Reload program
  kept_of (Act-Begin request) = Begin request
  kept_of (Act-End reply) = End reply
  kept_of (Act-Refuse cause) = Refuse cause

  -- what the table keeps of an act
  abbrev pub value_of : Act M T V P Q R F → Option V
  value_of (Act-Define task value) = Some value
  value_of _ = None

module _ {M T V P Q R F : Type 0} (f : Facts T V P Q R F) where
  -- a defined value is the one that is known of the task
  abbrev pub IsKnown : State M T V P Q R F → Act M T V P Q R F → Type 0
  IsKnown s (Act-Define task value) = f.known s.counts.program task ≡ Some value
  IsKnown s _ = Unit {0}
