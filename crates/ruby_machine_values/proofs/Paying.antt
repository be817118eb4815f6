-- What paying for a value leaves.
use Rattle.std.proofs.Common.{◌≡◌, ℕ, ◌+◌, ◌*◌, ◌<◌, ◌≤◌, List, refl, arith}
use Rattle.std.proofs.lemmas.Bool.{le-leb, lt-leb}
use Rattle.std.specs.Prelude.{Ok, Err, ◌-◌, ◌/◌}
use Rattle.program_places.specs.Places.{Index}
use Rattle.ruby_nodes.specs.Entries.{Entry}
use Rattle.ruby_runs.specs.BuiltIns.{made}
use Rattle.ruby_runs.specs.Doing.{spent}
use Rattle.ruby_types.specs.Size.{size}
use Rattle.ruby_types.specs.declared.value.Value.{Value}
use Rattle.ruby_machine_names.specs.Steps.{here_of}
use Rattle.ruby_machine_frames.specs.declared.frames.Control.TheVariants as control
use Rattle.ruby_machine_frames.specs.declared.frames.Stop.{Stop}
use Rattle.ruby_machine_frames.specs.declared.stack.Core.{Core}
use Rattle.ruby_machine_frames.specs.Rest.{KeptFrom, StopsWith, gives_of, load}
use Rattle.ruby_machine_frames.proofs.Steps.{kept_error}

module _ (index : Index) (known : List Entry) (m : Core) (v : Value) (most : ℕ) where
  -- a value that is paid for
  pub paid : (rest : ℕ) → most ≡ m.turns * 16 + 15 → most ≡ size v + rest →
      KeptFrom index known (made (here_of m.here) v m.turns (gives_of index known m)) (load m + 6)
      (Ok (control.Gives v)) (record m { turns = m.turns - (most - rest) / 16 })
  paid rest is fits =
      let same : most - rest ≡ size v = omega (arith, fits) in
      let le : size v / 16 ≤ m.turns = omega (arith, is, fits) in
      (rw (same, le-leb (size v / 16) m.turns le) refl, rw same (omega (arith, le)))

  -- a value that is too dear
  pub unpaid : (s : Stop) → most ≡ m.turns * 16 + 15 → most < size v → StopsWith (spent (here_of m.here)) s →
      KeptFrom index known (made (here_of m.here) v m.turns (gives_of index known m)) (load m + 6) (Err s) m
  unpaid s is large stops =
      let lt : m.turns < size v / 16 = omega (arith, is, large) in
      kept_error index known (made (here_of m.here) v m.turns (gives_of index known m)) (load m + 6)
      (spent (here_of m.here)) s m (rw (lt-leb (size v / 16) m.turns lt) refl) stops
