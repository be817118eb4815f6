-- How code stops and where it begins, by what there is to do.
use Rattle.std.proofs.Common.{◌≡◌, ◌∙◌, ℕ, suc, List, []}
use Rattle.ruby_types.specs.declared.value.Value.{Value}
use Rattle.program_places.specs.Places.{Index}
use Rattle.program_places.specs.Paths.{Path}
use Rattle.ruby_nodes.specs.Entries.{Entry, entry_at}
use Rattle.ruby_runs.specs.Doing.{Going, Here, Meaning}
use Rattle.ruby_runs.specs.Bodies.{GoesOn, State}
use Rattle.ruby_runs.specs.Runs.{const_run, run_limits, file_here, self_around}
use Rattle.ruby_machine_names.specs.Profile.{profile}
use Rattle.ruby_machine_names.specs.Steps.{here_of}
use Rattle.ruby_machine_state.specs.States.{state_of}
use Rattle.ruby_machine_frames.specs.Rest.{RunsTo, bottom, evals, gives_of, meaning, rest}
use Rattle.ruby_machine_frames.specs.declared.frames.Control.{Control}
use Rattle.ruby_machine_frames.specs.declared.frames.Control.TheVariants as control
use Rattle.ruby_machine_frames.specs.declared.frames.Stop.{Stop}
use Rattle.ruby_machine_frames.specs.declared.frames.Stop.TheVariants as stop
use Rattle.ruby_machine_frames.specs.declared.stack.Core.{Core}
use Rattle.ruby_machine_files.specs.Files.{finish}
use Rattle.ruby_machine.specs.Machines.{IsAssigned, Reaches, StopsAs}
use Rattle.ruby_machine.specs.declared.stage.Next.{Next}
use Rattle.ruby_machine.specs.declared.stage.Next.TheVariants as next

module _ (index : Index) (known : List Entry) where
  -- a run of code comes to what there was to do before it
  pub stops_as : (before : Meaning) (old : Core) (now : Control) (s : Stop) (new : Core) →
      before ≡ meaning index known old now → RunsTo index known old now s new → StopsAs index known before s new
  stops_as before old now (stop.Done value) new same runs = same ∙ runs
  stops_as before old now (stop.Raised error) new same runs = same ∙ runs
  stops_as before old now (stop.Need task) new same runs = same ∙ runs
  stops_as before old now stop.Memory new same runs = tt

  -- what is equal comes to the same
  pub reaches_along : (before before' : Meaning) (r : Next) → before ≡ before' → Reaches index known before' r →
      Reaches index known before r
  reaches_along before before' (next.Done value) same reaches = same ∙ reaches
  reaches_along before before' (next.Raised error) same reaches = same ∙ reaches
  reaches_along before before' (next.Asks task wait) same reaches = same ∙ reaches
  reaches_along before before' (next.Without end) same reaches = same ∙ reaches
  reaches_along before before' next.Memory same reaches = tt

  -- behind no frame a value is the run's
  finishes : (m : Core) → m.frames.items ≡ [] → gives_of index known m ≡ finish
  finishes m none = λ i value turns.
      rest index known (none i) bottom (GoesOn (state_of m.state) value) (here_of m.here) m.left turns

  -- a machine at the beginning of an assigned constant's expression does what the constant's task does
  pub assigned_means : (file : List ℕ) (scopes : List Path) (first : ℕ) (m : Core) → IsAssigned file scopes m →
      meaning index known m (control.Eval first)
      ≡ evals index known run_limits.frames (file_here run_limits file scopes) first
      (record { self = self_around scopes; locals = [] }) run_limits.task_turns finish
  assigned_means file scopes first m is = λ i.
      evals index known (is.3 i) (is.0 i) first (is.1 i) (is.4 i) (finishes m is.2 i)
