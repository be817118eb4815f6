-- How a request goes on, by what it does.
use Rattle.std.proofs.Common.{◌≡◌, ◌∙◌, ℕ, Bool, true, List, [], ◌∷◌, Some, sym, ap, arith}
use Rattle.std.specs.Prelude.{Result, Ok, Err, if◌then◌else◌}
use Rattle.ruby_types.specs.declared.value.Value.{Value, out-Value}
use Rattle.ruby_types.specs.declared.value.Value.TheVariants.{Hash, Module, outs-Module}
use Rattle.ruby_types.specs.declared.request.Request.{Request}
use Rattle.program_places.specs.Paths.{Name, Path}
use Rattle.program_places.specs.Places.{Index, Method}
use Rattle.ruby_nodes.specs.Entries.{Entry}
use Rattle.by_need.specs.Asking.{Other}
use Rattle.ruby_runs.specs.declared.NoReply.TheVariants.{NoController}
use Rattle.ruby_runs.specs.Doing.{Meaning, Going, Here, ◌>>=◌, ends}
use Rattle.ruby_runs.specs.Names.{refer}
use Rattle.ruby_runs.specs.Bodies.{GoesOn, frames_of, invoke}
use Rattle.ruby_runs.specs.Runs.{action_call, action_of, request_here, routed, run_limits}
use Rattle.ruby_machine_names.specs.Profile.{profile}
use Rattle.ruby_machine_names.specs.Steps.{Spends, here_of}
use Rattle.ruby_machine_names.specs.declared.here.HereCode.{HereCode}
use Rattle.ruby_machine_names.specs.declared.here.Failure.{Failure}
use Rattle.ruby_machine_names.specs.declared.here.Failure.TheVariants as failure
use Rattle.ruby_machine_state.specs.States.{state_of}
use Rattle.ruby_machine_frames.specs.Rest.{bottom, gives_of, rest}
use Rattle.ruby_machine_frames.specs.declared.stack.Core.{Core}
use Rattle.ruby_machine_frames.proofs.Steps.{kept_along}
use Rattle.ruby_machine_entering.specs.Methods.{given, invokes}
use Rattle.ruby_machine_entering.specs.declared.entering.Giving.TheVariants as giving
use Rattle.ruby_machine_files.specs.Files.{finish}
use Rattle.ruby_machine_requests.specs.Requests.{Begun, RequestGoes, called_on, referred}
use Rattle.ruby_machine_requests.specs.declared.run.RequestRun.{RequestRun}
use Rattle.ruby_machine_requests.specs.declared.run.RequestStep.{RequestStep}
use Rattle.ruby_machine_requests.specs.declared.run.RequestStep.TheVariants as step

module _ (index : Index) (known : List Entry) where
  -- what is equal goes on alike
  pub goes_along : (before before' : Meaning) (r : Result RequestStep Failure) → before ≡ before' →
      RequestGoes index known before' r → RequestGoes index known before r
  goes_along before before' (Ok (step.Without end)) same k = same ∙ k
  goes_along before before' (Ok (step.Asks task wait)) same k = same ∙ k
  goes_along before before' (Ok (step.Calls core next)) same k =
      (k.0, kept_along index known before' before k.0 k.0 next core same (omega arith) k.1)
  goes_along before before' (Err (failure.Raised error)) same k = same ∙ k
  goes_along before before' (Err failure.Memory) same k = tt

  -- behind no frame a value is the run's
  finishes : (m : Core) → m.frames.items ≡ [] → gives_of index known m ≡ finish
  finishes m none = λ i value turns.
      rest index known (none i) bottom (GoesOn (state_of m.state) value) (here_of m.here) m.left turns

  module _ (request : Request) (path : Path) (on : Value) (method : Method) where
    abbrev called_with : ℕ → Here → ℕ → List Value → Going Value → Meaning
    called_with left here turns args go =
        (invoke index profile (frames_of index profile left) here method on args >>= given giving.Value here) turns go

    -- an action that was found is called behind a turn, in the first frame
    pub action_is_called : (m : Core) (here : HereCode) (itself : Value) (old turns : ℕ) (args : List Value) →
        Begun here itself turns m → here_of here ≡ request_here run_limits → Spends old true turns →
        args ≡ Hash request.params ∷ [] →
        action_call index profile run_limits request path on (Some method) old finish
        ≡ invokes index known m giving.Value method on args
    action_is_called m here itself old turns args begun at spent are =
        ap (λ n. action_call index profile run_limits request path on (Some method) n finish) spent
        ∙ sym (λ i. called_with (begun.left i) ((ap here_of begun.here_is ∙ at) i) (begun.turns_are i) (are i)
        (finishes m begun.frames i))

  -- the constant of a controller is a module or class
  pub module_is_called : (run : RequestRun) (value : Value) (called : Path) → value ≡ Module called →
      action_of index profile run_limits run.request run.path value (out-Value value) run.turns finish
      ≡ called_on index run called
  module_is_called run value called is =
      ap (λ v. action_of index profile run_limits run.request run.path v (out-Value v) run.turns finish) is
      ∙ ap (λ l. action_of index profile run_limits run.request run.path (Module called) l run.turns finish)
      (outs-Module called)

module _ (index : Index) (request : Request) where
  -- a request to a controller, by whether it has a file
  abbrev routed_by : Path → Bool → Meaning
  routed_by path has =
      (if has then refer index profile (request_here run_limits) path >>= (λ found.
      action_of index profile run_limits request path found.value (out-Value found.value))
      else ends (Other (NoController path))) run_limits.request_turns finish

  -- a request whose controller has a file
  pub routed_is : (segments : List Name) (path : Path) → (segments ≡ [] → ⊥) → path ≡ index.controller segments →
      true ≡ index.has_file path →
      routed index profile run_limits request segments run_limits.request_turns finish ≡ referred index request path
  routed_is [] path other is has = absurd (other (λ i. []))
  routed_is (segment ∷ segments) path other is has =
      ap (λ p. routed_by p (index.has_file p)) (sym is) ∙ ap (routed_by path) (sym has)
