-- What the run of a file's task still does, and how the runs of tasks go on.
use Rattle.std.specs.Prelude.{◌≡◌, ℕ, drop, List, [], Result, Ok, Err}
use Rattle.by_need.specs.Asking.{Gives, Ask, Error}
use Rattle.by_need.specs.Asking as asking
use Rattle.ruby_types.specs.declared.value.Value.{Value}
use Rattle.ruby_types.specs.declared.value.Value.TheVariants.{Nil}
use Rattle.ruby_types.specs.declared.request.Task.{Task}
use Rattle.program_places.specs.Places.{Index, Loading, Absent, Fails, AsksFor}
use Rattle.ruby_runs.specs.Doing.{Going, Here, Meaning, pure, ◌>>◌}
use Rattle.ruby_runs.specs.Runs.{ask_all, file_here, run_limits}
use Rattle.ruby_machine_names.specs.Profile.{profile}
use Rattle.ruby_machine_names.specs.declared.here.Failure.{Failure}
use Rattle.ruby_machine_names.specs.declared.here.Failure.TheVariants as failure
use Rattle.ruby_machine_files.specs.declared.step.TaskStep.{TaskStep}
use Rattle.ruby_machine_files.specs.declared.step.TaskStep.TheVariants as step
use Rattle.ruby_machine_files.specs.declared.run.FileWait.{FileWait}

-- behind the last step the value is the run's
abbrev pub finish : Going Value
finish value turns = Gives (asking.Value value)

-- a file, outside of all scopes
abbrev pub file_alone : List ℕ → Here
file_alone file = file_here run_limits file []

-- How the run of a task goes on: `waits` says what what waits does with a value.
abbrev pub TaskGoes : {W : Type 0} → (W → Value → Meaning) → Meaning → Result (TaskStep W) Failure → Type 0
TaskGoes waits before (Ok (step.Done value)) = before ≡ Gives (asking.Value value)
TaskGoes waits before (Ok (step.Asks task wait)) = before ≡ Ask task (waits wait)
TaskGoes waits before (Err (failure.Raised error)) = before ≡ Gives (Error error)
TaskGoes waits before (Err failure.Memory) = Unit {0}

module _ (index : Index) where
  -- what asks for these tasks of a file
  abbrev pub asks_from : List ℕ → List Task → ℕ → Meaning
  asks_from file tasks turns = (ask_all index profile run_limits (file_alone file) tasks >> pure Nil) turns finish

  -- what the run of a file does from a place among its tasks on
  abbrev pub rest_of_file : List ℕ → ℕ → Loading → ℕ → Meaning
  rest_of_file file place Absent turns = finish Nil turns
  rest_of_file file place (Fails error) turns = Gives (Error error)
  rest_of_file file place (AsksFor tasks) turns = asks_from file (drop place tasks) turns

  -- what a file does that waits for a value
  abbrev pub waits : FileWait → Value → Meaning
  waits wait value = rest_of_file wait.file wait.place (index.loading wait.file) wait.turns
