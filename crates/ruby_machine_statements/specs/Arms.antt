-- What a statement still does in a machine.
use Rattle.std.specs.Prelude.{ℕ, List, map}
use Rattle.ruby_types.specs.declared.value.Value.{Value}
use Rattle.ruby_types.specs.declared.value.Value.TheVariants.{Nil}
use Rattle.program_places.specs.Places.{Index}
use Rattle.ruby_nodes.specs.Entries.{Entry, entry_of}
use Rattle.ruby_runs.specs.Doing.{Meaning, Going}
use Rattle.ruby_runs.specs.Bodies.{Flow, Returns, exec, in_order}
use Rattle.ruby_machine_names.specs.Profile.{profile}
use Rattle.ruby_machine_names.specs.Steps.{here_of}
use Rattle.ruby_machine_state.specs.States.{state_of}
use Rattle.ruby_machine_frames.specs.declared.frames.Frame.TheVariants as frame
use Rattle.ruby_machine_frames.specs.declared.stack.Core.{Core}
use Rattle.ruby_machine_frames.specs.Rest.{after_of, arms_from, calls, flows, flows_of, onto}
use Rattle.ruby_machine_statements.specs.declared.node.Statement.{Statement}
use Rattle.ruby_machine_statements.specs.Nodes.{node_of}

module _ (index : Index) (known : List Entry) where
  -- the arms of an `if` before something that comes after
  abbrev pub arms_before : ℕ → ℕ → Core → Going Flow → Meaning
  arms_before arms other m =
      arms_from index known m.left (here_of m.here) arms other (state_of m.state) m.turns

  -- the arms of an `if` from a node on, and else the statements from another on, where the frames wait for the value
  abbrev pub arms_meaning : Core → ℕ → ℕ → Meaning
  arms_meaning m arms other = arms_before arms other m (flows_of index known m)

  -- an `if`, and the statements from a node on behind it
  abbrev pub if_of : ℕ → ℕ → ℕ → Core → Meaning
  if_of arms other next m =
      arms_before arms other m (flows (onto index known (frame.Then next) (after_of index known m)) (here_of m.here)
      m.left)

  -- a return of this value
  abbrev pub returns_of : Core → Value → Meaning
  returns_of m v = flows_of index known m (Returns (state_of m.state) v) m.turns

  -- a statement, and those behind it
  abbrev pub statement_meaning : Core → Statement → Meaning
  statement_meaning m statement =
      in_order (map (exec index profile (calls index known m.left) (here_of m.here)) (entry_of known (node_of
      statement)).body) Nil (state_of m.state) m.turns (flows_of index known m)
