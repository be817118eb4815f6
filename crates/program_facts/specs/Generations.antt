-- What is true of the programs of generations, for a system of events: their tasks, what is known of them, what their
-- runs ask for, and their replies.
use Rattle.std.specs.Prelude.{◌≡◌, ◌≢◌, ℕ, Bool, List, map, length, AllPairs}
use Rattle.by_need.specs.Rounds.{known}
use Rattle.ruby_types.specs.declared.value.Value.{Value}
use Rattle.ruby_types.specs.declared.value.Value.TheVariants.{Str, Sym}
use Rattle.ruby_types.specs.declared.request.Reply.{Reply}
use Rattle.ruby_types.specs.declared.request.Request.{Request}
use Rattle.ruby_types.specs.declared.request.Task.{Task}
use Rattle.ruby_types.specs.declared.request.Task.TheVariants as task
use Rattle.task_keys.specs.Same.{same_task}
use Rattle.program_places.specs.Paths.{Name}
use Rattle.program_files.specs.Tasks.{tasks_of}
use Rattle.program_theory.specs.Applications.{Application, rules_of}
use Rattle.program_theory.specs.Replies.{reply_of}
use Rattle.system_events.specs.Facts.{Facts}

-- What is true of programs beside their applications: the application of each, the program of the empty snapshot, a
-- number by which tasks are looked up, which snapshots have the same stamps, how many bytes changed between two, which
-- programs are within the limits and have no fault, and which faults hold no want of memory.
pub record Generations (P F : Type 0) : Type 1 where
  pub application : P → Application
  pub empty : P
  pub hash : Task → ℕ
  pub same_stamps : P → P → Bool
  pub changed_bytes : P → P → ℕ
  pub IsProgram : P → Type 0
  pub IsFault : F → Type 0

-- a parameter of a request: `:id` and `"7"`
abbrev pub parameter : Name × List ℕ → Value × Value
parameter p = (Sym p.0, Str p.1)

-- A request whose parameters have texts and distinct names.
pub record IsWellFormed (request : Request) : Type 0 where
  pub pairs : List (Name × List ℕ)
  pub params : request.params ≡ map parameter pairs
  pub distinct : AllPairs (λ p q. p.0 ≢ q.0) pairs

-- What a task's run asks for, over all that is known of an application.
abbrev pub asked_by : Application → Task → List Task
asked_by app t = ((rules_of app).run t (known (rules_of app))).asked

-- The facts of programs.
abbrev pub facts_of : {P F : Type 0} → Generations P F → Facts Task Value P Request Reply F
facts_of g = record {
  same_task = same_task;
  hash = g.hash;
  empty = g.empty;
  tasks = λ program. tasks_of (g.application program).files;
  known = λ program. known (rules_of (g.application program));
  asked = λ program. asked_by (g.application program);
  request_asked = λ program request. asked_by (g.application program) (task.Request request);
  reply = λ program. reply_of (g.application program);
  same_stamps = g.same_stamps;
  changed_bytes = g.changed_bytes;
  reply_bytes = λ reply. length reply.body;
  IsProgram = g.IsProgram;
  IsRequest = IsWellFormed;
  IsFault = g.IsFault;
}
