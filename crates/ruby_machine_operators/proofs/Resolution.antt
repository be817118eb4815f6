-- What the machine does with what resolving a constant comes to.
use Rattle.std.proofs.Common.{ℕ, ◌+◌, List, arith}
use Rattle.std.specs.Prelude.{Result, Ok, Err}
use Rattle.program_places.specs.Places.{Index}
use Rattle.ruby_nodes.specs.Entries.{Entry}
use Rattle.ruby_types.specs.declared.request.Task.{Task}
use Rattle.ruby_runs.specs.Doing.{Doing, Meaning}
use Rattle.ruby_runs.specs.Names.{Found}
use Rattle.ruby_machine_names.specs.Names.{found_of, later}
use Rattle.ruby_machine_names.specs.Steps.{AsksFor, ComesTo, EndsAt, here_of}
use Rattle.ruby_machine_names.specs.declared.here.Failure.{Failure}
use Rattle.ruby_machine_names.specs.declared.here.Failure.TheVariants as failure
use Rattle.ruby_machine_names.specs.declared.names.FoundCode.{FoundCode}
use Rattle.ruby_machine_names.specs.declared.resolving.NameWait.{NameWait}
use Rattle.ruby_machine_frames.specs.declared.frames.Control.{Control}
use Rattle.ruby_machine_frames.specs.declared.frames.Control.TheVariants as control
use Rattle.ruby_machine_frames.specs.declared.frames.Frame.TheVariants as frame
use Rattle.ruby_machine_frames.specs.declared.frames.Stop.{Stop}
use Rattle.ruby_machine_frames.specs.declared.stack.Core.{Core}
use Rattle.ruby_machine_frames.specs.Rest.{KeptFrom, const_from, gives_of, load, needs, with_turns}
use Rattle.ruby_machine_frames.specs.Stops.{stop_of}
use Rattle.ruby_machine_frames.proofs.Steps.{kept_along}

module _ (index : Index) (known : List Entry) (m : Core) (d : Doing Found) (turns : ℕ) where
  abbrev before : Meaning
  before = const_from index known (with_turns m turns) d

  -- a constant that was found gives its value
  pub found_kept : (found : FoundCode) → ComesTo d turns (found_of found) m.turns →
      KeptFrom index known (const_from index known (with_turns m turns) d) (load (with_turns m turns) + 9)
      (Ok (control.Gives found.value)) m
  found_kept found c =
      (c.0 (λ f n. gives_of index known (with_turns m turns) f.value n), omega (arith, c.1))

  -- one that waits asks for its task
  pub asks_kept : (task : Task) (wait : NameWait) (r : Result Control Stop) (new : Core) →
      AsksFor (later index (here_of m.here) wait) d turns task m.turns →
      KeptFrom index known (needs index known m (frame.Names wait) task) (load m + 10) r new →
      KeptFrom index known (const_from index known (with_turns m turns) d) (load (with_turns m turns) + 9) r new
  asks_kept task wait r new a k =
      kept_along index known (needs index known m (frame.Names wait) task) before (load m + 10)
      (load (with_turns m turns) + 9) r new (a.0 (λ f n. gives_of index known (with_turns m turns) f.value n))
      (omega (arith, a.1)) k

  -- or the run ends
  pub fails_kept : (f : Failure) → EndsAt d turns f →
      KeptFrom index known (const_from index known (with_turns m turns) d) (load (with_turns m turns) + 9)
      (Err (stop_of f)) m
  fails_kept (failure.Raised error) e = e (λ f n. gives_of index known (with_turns m turns) f.value n)
  fails_kept failure.Memory e = tt
