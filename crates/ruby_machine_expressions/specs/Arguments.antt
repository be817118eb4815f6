-- What a machine does that evaluates the arguments of a call.
use Rattle.std.specs.Prelude.{ℕ, List, []}
use Rattle.ruby_types.specs.declared.value.Value.{Value}
use Rattle.program_places.specs.Paths.{Name}
use Rattle.program_places.specs.Places.{Index}
use Rattle.ruby_nodes.specs.Entries.{Entry}
use Rattle.ruby_runs.specs.Doing.{Meaning}
use Rattle.ruby_machine_names.specs.Steps.{here_of}
use Rattle.ruby_machine_state.specs.States.{state_of}
use Rattle.ruby_machine_frames.specs.declared.stack.Core.{Core}
use Rattle.ruby_machine_frames.specs.Rest.{args_from, gives_of}

module _ (index : Index) (known : List Entry) where
  -- the arguments of a call from a node on, behind those that are done, and then the call
  abbrev pub args_left : Value → Name → ℕ → List Value → Core → Meaning
  args_left on name more done m =
      args_from index known m.left (here_of m.here) on name more done (state_of m.state) m.turns (gives_of index known
      m)

  -- the same on self
  abbrev pub own_args_left : Name → ℕ → Core → Meaning
  own_args_left name first m = args_left m.state.itself name first [] m
