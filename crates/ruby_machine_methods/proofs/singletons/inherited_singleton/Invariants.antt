use Rattle.std.proofs.Common.{◌≡◌, drop, map}
use Rattle.ruby_runs.specs.Bodies.{first_found, singleton_of_class}
use Rattle.ruby_machine_methods.specs.Finding.{singleton_among}
use Rattle.ruby_machine_methods.proofs.singletons.inherited_singleton.Given as goal

abbrev pub invariant-paths : goal.invariant-paths
invariant-paths g l =
    first_found (map (λ p. singleton_of_class l.name ((g.P.Lookups.index l.program).place p)) (drop l.at l.paths.items))
    ≡ singleton_among (g.P.Lookups.index l.program) l.name l.ancestors
