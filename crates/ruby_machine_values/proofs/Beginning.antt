-- What follows a turn that is begun.
use Rattle.std.proofs.Common.{◌+◌, true, false, List, arith}
use Rattle.std.specs.Prelude.{Result, Err}
use Rattle.program_places.specs.Places.{Index}
use Rattle.ruby_nodes.specs.Entries.{Entry}
use Rattle.ruby_runs.specs.Doing.{Meaning, spent}
use Rattle.ruby_machine_names.specs.Steps.{here_of}
use Rattle.ruby_machine_frames.specs.declared.frames.Control.{Control}
use Rattle.ruby_machine_frames.specs.declared.frames.Stop.{Stop}
use Rattle.ruby_machine_frames.specs.declared.stack.Core.{Core}
use Rattle.ruby_machine_frames.specs.Rest.{KeptFrom, Spent, StopsWith, load, with_turns}
use Rattle.ruby_machine_frames.proofs.Steps.{turn_then_kept, unspent_kept}
use Rattle.ruby_machine_values.specs.Beginning.{begins}

module _ (index : Index) (known : List Entry) (next : Core → Meaning) (old m : Core) where
  -- a turn is left
  pub begun : (r : Result Control Stop) (new : Core) → Spent old true m →
      KeptFrom index known (next m) (load m + 9) r new → KeptFrom index known (begins next old) (load old) r new
  begun r new spent k = turn_then_kept index known old m r new next (load m + 9) spent (omega arith) k

  -- none is left
  pub not_begun : (s : Stop) → Spent old false m → StopsWith (spent (here_of m.here)) s →
      KeptFrom index known (begins next old) (load old) (Err s) m
  not_begun s none stops = unspent_kept index known old m (λ u n. next (with_turns old n)) (load old) s none stops
