-- What a machine does that calls a method which was found.
use Rattle.std.specs.Prelude.{ℕ, List, Some}
use Rattle.ruby_types.specs.declared.value.Value.{Value}
use Rattle.program_places.specs.Places.{Index, Method, Body}
use Rattle.ruby_nodes.specs.Entries.{Entry}
use Rattle.program_lookups.specs.declared.code.MethodCode.{MethodCode}
use Rattle.ruby_runs.specs.Doing.{Meaning, Doing, Here, pure, ◌>>=◌}
use Rattle.ruby_runs.specs.BuiltIns.{made}
use Rattle.ruby_runs.specs.Bodies as bodies
use Rattle.ruby_runs.specs.Bodies.{Left, body_of, bound, frames_of, invoke}
use Rattle.ruby_machine_names.specs.Profile.{profile}
use Rattle.ruby_machine_names.specs.Steps.{here_of}
use Rattle.ruby_machine_frames.specs.declared.frames.Caller.{Caller}
use Rattle.ruby_machine_frames.specs.declared.frames.Frame.{Frame}
use Rattle.ruby_machine_frames.specs.declared.frames.Frame.TheVariants as frame
use Rattle.ruby_machine_frames.specs.declared.stack.Core.{Core}
use Rattle.ruby_machine_frames.specs.Rest.{calls, gives_of}
use Rattle.ruby_machine_entering.specs.declared.entering.Giving.{Giving}
use Rattle.ruby_machine_entering.specs.declared.entering.Giving.TheVariants as giving

-- where the code of a method runs
abbrev pub code_here : ℕ → MethodCode → Here
code_here limit method = record { file = Some method.file; scopes = method.scopes; limit = limit }

-- What a call gives of what a method leaves: its value, or the object, which is paid for.
abbrev pub given : Giving → Here → Left → Doing Value
given giving.Value here left = pure left.value
given giving.Object here left = made here left.self

-- the frame behind which a method runs
abbrev pub leaving_frame : Giving → Caller → Frame
leaving_frame giving.Value caller = frame.Leave caller
leaving_frame giving.Object caller = frame.LeaveNew caller

module _ (index : Index) (known : List Entry) (m : Core) (gives : Giving) where
  -- what a machine does that calls a method
  abbrev pub invokes : Method → Value → List Value → Meaning
  invokes method on args =
      (invoke index profile (frames_of index profile m.left) (here_of m.here) method on args
      >>= given gives (here_of m.here)) m.turns (gives_of index known m)

  -- what a machine does that runs the body of a method, with so many frames left in it
  abbrev pub enters : ℕ → Method → Body → Value → List Value → Meaning
  enters left method body on args =
      (body_of index profile (calls index known left) (bodies.here_of m.here.limit method) body
      (record { self = on; locals = bound method.params args })
      >>= given gives (here_of m.here)) m.turns (gives_of index known m)
