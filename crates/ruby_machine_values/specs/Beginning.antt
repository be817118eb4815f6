-- What a machine does that begins a turn, or hands a value to a frame.
use Rattle.std.specs.Prelude.{List}
use Rattle.program_places.specs.Places.{Index}
use Rattle.ruby_nodes.specs.Entries.{Entry}
use Rattle.ruby_types.specs.declared.value.Value.{Value}
use Rattle.ruby_runs.specs.Doing.{Meaning, turn}
use Rattle.ruby_runs.specs.Bodies.{GoesOn}
use Rattle.ruby_machine_names.specs.Steps.{here_of}
use Rattle.ruby_machine_state.specs.States.{state_of}
use Rattle.ruby_machine_frames.specs.declared.frames.Frame.{Frame}
use Rattle.ruby_machine_frames.specs.declared.stack.Core.{Core}
use Rattle.ruby_machine_frames.specs.Rest.{frame_meaning, with_turns}

-- a turn, and then something
abbrev pub begins : (Core → Meaning) → Core → Meaning
begins next m = turn (here_of m.here) m.turns (λ u n. next (with_turns m n))

-- what a frame that was taken off does with a value
abbrev pub handed : Index → List Entry → Core → Frame → Value → Meaning
handed index known m f v = frame_meaning index known m f (GoesOn (state_of m.state) v)
