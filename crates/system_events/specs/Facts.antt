-- What is true of tasks, values, programs, requests and replies. A language gives these; the laws of events know no
-- more.
use Rattle.std.specs.Prelude.{◌≡◌, ◌↔◌, ℕ, ◌-◌, ◌^◌, min, Bool, true, List, Option, Contains}

-- T: tasks. V: values. P: programs, each of one snapshot. Q: requests. R: replies. F: why a snapshot gives no program.
pub record Facts (T V P Q R F : Type 0) : Type 1 where
  -- two tasks are the same
  pub same_task : T → T → Bool
  -- a number by which tasks are looked up
  pub hash : T → ℕ
  -- the program of the empty snapshot
  pub empty : P
  -- the tasks of a program
  pub tasks : P → List T
  -- the value of a task that is known of a program
  pub known : P → T → Option V
  -- the tasks that a task's run asks for, over all that is known
  pub asked : P → T → List T
  -- the tasks that a request's run asks for, over all that is known
  pub request_asked : P → Q → List T
  -- the reply of a request on a program
  pub reply : P → Q → R
  -- two snapshots have the same files, lengths and times
  pub same_stamps : P → P → Bool
  -- the bytes of the files that are new or differ from those before
  pub changed_bytes : P → P → ℕ
  -- the bytes of the body of a reply
  pub reply_bytes : R → ℕ
  -- the snapshot is within the limits and has no fault of configuration or of names
  pub IsProgram : P → Type 0
  -- the request may begin: its parameters are distinct names with texts
  pub IsRequest : Q → Type 0
  -- the fault holds no want of memory
  pub IsFault : F → Type 0

-- `same_task` is equality
abbrev pub SameIsEqual : {T V P Q R F : Type 0} → Facts T V P Q R F → Type 0
SameIsEqual {T} f = (a b : T) → (f.same_task a b ≡ true) ↔ (a ≡ b)

-- the number, or the greatest number of 64 bits where it is greater
abbrev pub capped : ℕ → ℕ
capped n = min n (2 ^ 64 - 1)

-- A task needs itself, and what is asked for by a task that it needs.
-- Where A asks for B, and B for C, A needs A, B and C.
pub data Needs {T : Type 0} (asked : T → List T) (sought : T) : T → Type 0 where
  itself : Needs asked sought sought
  through : (asking task : T) → Needs asked sought asking → Contains (asked asking) task → Needs asked sought task
