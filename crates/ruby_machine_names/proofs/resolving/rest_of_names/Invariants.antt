use Rattle.std.proofs.Common.{◌≡◌, ◌≤◌, ℕ, drop}
use Rattle.ruby_runs.specs.Doing.{Going}
use Rattle.ruby_runs.specs.Names as spec
use Rattle.ruby_runs.specs.Names.{Found}
use Rattle.ruby_machine_names.specs.Profile.{profile}
use Rattle.ruby_machine_names.specs.Names.{found_of}
use Rattle.ruby_machine_names.specs.Steps.{here_of}
use Rattle.ruby_machine_names.proofs.resolving.rest_of_names.Given as goal

abbrev pub invariant-names : goal.invariant-names
invariant-names g l = record {
  same : (go : Going Found) →
      spec.rest_of_names (g.P.Lookups.index l.program) profile (here_of l.here) l.in_code (found_of l.fn.found)
      (drop l.fn.place l.all) l.fn.turns go
      ≡ spec.rest_of_names (g.P.Lookups.index l.program) profile (here_of l.here) l.in_code (found_of l.found)
      (drop l.at l.all) l.turns go;
  falls : l.turns ≤ l.fn.turns;
}
