use Rattle.std.proofs.Common.{◌≡◌, ℕ, drop, Option}
use Rattle.program_places.specs.Paths.{Path}
use Rattle.ruby_runs.specs.Doing.{Going}
use Rattle.ruby_runs.specs.Names as spec
use Rattle.ruby_machine_names.specs.Profile.{profile}
use Rattle.ruby_machine_names.proofs.search.search.Given as goal

abbrev pub invariant-scopes : goal.invariant-scopes
invariant-scopes g l = (turns : ℕ) (go : Going (Option Path)) →
    spec.search (g.P.Lookups.index l.program) profile l.name l.scopes turns go
    ≡ spec.search (g.P.Lookups.index l.program) profile l.name (drop l.scope-index l.scopes) turns go
