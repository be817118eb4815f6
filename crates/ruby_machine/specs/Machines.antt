-- What a machine still does.
use Rattle.std.specs.Prelude.{◌≡◌, ℕ, List, []}
use Rattle.by_need.specs.Asking.{Gives, Ask, Error, Other}
use Rattle.by_need.specs.Asking as asking
use Rattle.ruby_types.specs.declared.value.Value.{Value}
use Rattle.ruby_types.specs.declared.value.Value.TheVariants.{Nil}
use Rattle.ruby_types.specs.declared.request.Task.{Task}
use Rattle.program_places.specs.Paths.{Path}
use Rattle.program_places.specs.Places.{Index}
use Rattle.ruby_nodes.specs.Entries.{Entry}
use Rattle.ruby_runs.specs.declared.NoReply.TheVariants.{NoController, NoAction}
use Rattle.ruby_runs.specs.Doing.{Meaning}
use Rattle.ruby_runs.specs.Runs as runs
use Rattle.ruby_runs.specs.Runs.{run_limits}
use Rattle.ruby_machine_names.specs.Profile.{profile}
use Rattle.ruby_machine_names.specs.Steps.{here_of}
use Rattle.ruby_machine_state.specs.States.{state_of}
use Rattle.ruby_machine_frames.specs.declared.frames.Stop.{Stop}
use Rattle.ruby_machine_frames.specs.declared.frames.Stop.TheVariants as stop
use Rattle.ruby_machine_frames.specs.declared.stack.Core.{Core}
use Rattle.ruby_machine_files.specs.Files as files
use Rattle.ruby_machine_ancestors.specs.Ancestors as ancestors
use Rattle.ruby_machine_requests.specs.Requests as requests
use Rattle.ruby_machine_frames.specs.Rest as rest
use Rattle.ruby_machine_frames.specs.declared.frames.Control.TheVariants as control
use Rattle.ruby_machine.specs.declared.stage.Wait.{Wait}
use Rattle.ruby_machine.specs.declared.stage.Wait.TheVariants as wait
use Rattle.ruby_machine.specs.declared.stage.Stage.{Stage}
use Rattle.ruby_machine.specs.declared.stage.Stage.TheVariants as stage
use Rattle.ruby_machine.specs.declared.stage.Next.{Next}
use Rattle.ruby_machine.specs.declared.stage.Next.TheVariants as next
use Rattle.ruby_machine.specs.declared.machine.Reached.{Reached}
use Rattle.ruby_machine.specs.declared.machine.Reached.TheVariants as reached
use Rattle.ruby_machine.specs.declared.machine.Ran.{Ran}
use Rattle.ruby_machine.specs.declared.machine.Ran.TheVariants as ran

module _ (index : Index) (known : List Entry) where
  -- what a machine does with the value that it waits for
  abbrev pub waits : Wait → Value → Meaning
  waits (wait.File w) value = files.waits index w value
  waits (wait.Ancestors w) value = ancestors.waits index w value
  waits (wait.Request w) value = requests.waits index w value
  waits (wait.Code core) value = rest.meaning index known core (control.Gives value)

  -- What a machine still does: at its beginning what its task means. (One that isn't ready comes to nil.)
  abbrev pub still : Stage → Meaning
  still (stage.Begins task) = runs.meaning index profile run_limits task
  still (stage.Waits w) = Gives (asking.Value Nil)
  still (stage.Resumes w value) = waits w value
  still stage.Over = Gives (asking.Value Nil)

  -- what a machine that waits still does behind each value that it may be given
  abbrev pub branch : Stage → Value → Meaning
  branch (stage.Waits w) value = waits w value
  branch m value = still m

  -- what there is to do comes to this: an end, or a question, with what is done behind each value
  abbrev pub Reaches : Meaning → Next → Type 0
  Reaches before (next.Done value) = before ≡ Gives (asking.Value value)
  Reaches before (next.Raised error) = before ≡ Gives (Error error)
  Reaches before (next.Asks task w) = before ≡ Ask task (waits w)
  Reaches before (next.Without end) = before ≡ Gives (Other end)
  Reaches before next.Memory = Unit {0}

  -- the same of code that stopped
  abbrev pub StopsAs : Meaning → Stop → Core → Type 0
  StopsAs before (stop.Done value) core = before ≡ Gives (asking.Value value)
  StopsAs before (stop.Raised error) core = before ≡ Gives (Error error)
  StopsAs before (stop.Need task) core =
      before ≡ Ask task (λ value. rest.meaning index known core (control.Gives value))
  StopsAs before stop.Memory core = Unit {0}

  -- the same of a machine
  abbrev pub GoesTo : Meaning → Reached → Stage → Type 0
  GoesTo before (reached.Done value) m = before ≡ Gives (asking.Value value)
  GoesTo before (reached.Raised error) m = before ≡ Gives (Error error)
  GoesTo before (reached.Need task) m = before ≡ Ask task (branch m)
  GoesTo before (reached.Without end) m = before ≡ Gives (Other end)
  GoesTo before reached.Memory m = Unit {0}

  -- What a run came to: the answer of what there was to do, or the task that it asks for, with the branches that the
  -- machine then has.
  abbrev pub RanTo : Meaning → Ran → Stage → Type 0
  RanTo before (ran.Done value) m = before ≡ Gives (asking.Value value)
  RanTo before (ran.Raised error) m = before ≡ Gives (Error error)
  RanTo before (ran.Need task) m = before ≡ Ask task (branch m)
  RanTo before ran.NoController m = (path : Path) × (before ≡ Gives (Other (NoController path)))
  RanTo before ran.NoAction m = (path : Path) × (before ≡ Gives (Other (NoAction path)))
  RanTo before ran.Memory m = Unit {0}

-- a machine at the beginning of an assigned constant's expression
abbrev pub IsAssigned : List ℕ → List Path → Core → Type 0
IsAssigned file scopes m =
    (here_of m.here ≡ runs.file_here run_limits file scopes) × (state_of m.state ≡ record {
      self = runs.self_around
          scopes;
      locals = [];
    }) × (m.frames.items ≡ []) × (m.left ≡ run_limits.frames) × (m.turns ≡ run_limits.task_turns)
