-- What the run of a request still does, up to the call of its action.
use Rattle.std.specs.Prelude.{◌≡◌, ℕ, Result, Ok, Err, List, []}
use Rattle.by_need.specs.Asking.{Gives, Ask, Error, Other}
use Rattle.ruby_types.specs.declared.value.Value.{Value, out-Value}
use Rattle.ruby_types.specs.declared.value.Value.TheVariants.{Module}
use Rattle.ruby_types.specs.declared.request.Request.{Request}
use Rattle.program_places.specs.Paths.{Path}
use Rattle.program_places.specs.Places.{Index}
use Rattle.ruby_nodes.specs.Entries.{Entry}
use Rattle.ruby_runs.specs.Bodies.{singleton}
use Rattle.ruby_runs.specs.Doing.{Meaning, ◌>>=◌}
use Rattle.ruby_runs.specs.Names.{refer}
use Rattle.ruby_runs.specs.Runs.{action_call, action_of, request_here, run_limits}
use Rattle.ruby_machine_names.specs.Profile.{profile}
use Rattle.ruby_machine_names.specs.Names.{later}
use Rattle.ruby_machine_names.specs.declared.here.HereCode.{HereCode}
use Rattle.ruby_machine_names.specs.declared.here.Failure.{Failure}
use Rattle.ruby_machine_names.specs.declared.here.Failure.TheVariants as failure
use Rattle.ruby_machine_methods.specs.Finding.{singleton_among}
use Rattle.ruby_machine_files.specs.Files.{finish}
use Rattle.ruby_machine_frames.specs.Rest.{KeptFrom}
use Rattle.ruby_machine_frames.specs.declared.stack.Core.{Core}
use Rattle.ruby_machine_requests.specs.declared.run.RequestWait.{RequestWait}
use Rattle.ruby_machine_requests.specs.declared.run.RequestRun.{RequestRun}
use Rattle.ruby_machine_requests.specs.declared.run.RequestAwaits.{RequestAwaits}
use Rattle.ruby_machine_requests.specs.declared.run.RequestAwaits.TheVariants as awaits
use Rattle.ruby_machine_requests.specs.declared.run.RequestStep.{RequestStep}
use Rattle.ruby_machine_requests.specs.declared.run.RequestStep.TheVariants as step

-- a machine at the beginning of a run's code: no frame is open, no local is assigned, and 1,000 frames are left
pub record Begun (here : HereCode) (itself : Value) (turns : ℕ) (m : Core) : Type 0 where
  pub frames : m.frames.items ≡ []
  pub here_is : m.here ≡ here
  pub itself_is : m.state.itself ≡ itself
  pub locals : m.state.locals.items ≡ []
  pub left : m.left ≡ run_limits.frames
  pub turns_are : m.turns ≡ turns

module _ (index : Index) where
  -- what a request does by what it waits for
  abbrev pub waits_for : RequestRun → RequestAwaits → Value → Meaning
  waits_for run (awaits.Controller wait) value =
      (later index (request_here run_limits) wait value >>= (λ found.
      action_of index profile run_limits run.request run.path found.value (out-Value found.value))) run.turns finish
  waits_for run (awaits.Action called) value =
      action_call index profile run_limits run.request run.path (Module called)
      (singleton_among index run.request.action value) run.turns finish

  -- the action of a request is looked up among the singleton methods of a module, and called
  abbrev pub called_on : RequestRun → Path → Meaning
  called_on run called =
      (singleton index profile (request_here run_limits) called run.request.action
      >>= action_call index profile run_limits run.request run.path (Module called)) run.turns finish

  -- the controller of a request is referred to, and its action called
  abbrev pub referred : Request → Path → Meaning
  referred request path =
      (refer index profile (request_here run_limits) path >>= (λ found.
      action_of index profile run_limits request path found.value (out-Value found.value))) run_limits.request_turns
      finish

  -- what a request does with the value that it waits for
  abbrev pub waits : RequestWait → Value → Meaning
  waits wait value = waits_for wait.run wait.awaits value

module _ (index : Index) (known : List Entry) where
  -- how a request goes on
  abbrev pub RequestGoes : Meaning → Result RequestStep Failure → Type 0
  RequestGoes before (Ok (step.Without end)) = before ≡ Gives (Other end)
  RequestGoes before (Ok (step.Asks task wait)) = before ≡ Ask task (waits index wait)
  RequestGoes before (Ok (step.Calls core next)) = (bound : ℕ) × KeptFrom index known before bound next core
  RequestGoes before (Err (failure.Raised error)) = before ≡ Gives (Error error)
  RequestGoes before (Err failure.Memory) = Unit {0}
