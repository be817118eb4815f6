use Rattle.std.proofs.Common.{◌≡◌, drop, map}
use Rattle.ruby_runs.specs.Bodies.{first_found, instance_of}
use Rattle.ruby_machine_methods.specs.Finding.{instance_among}
use Rattle.ruby_machine_methods.proofs.instances.inherited_instance.Given as goal

abbrev pub invariant-paths : goal.invariant-paths
invariant-paths g l =
    first_found (map (λ p. instance_of l.name ((g.P.Lookups.index l.program).place p)) (drop l.at l.paths.items))
    ≡ instance_among (g.P.Lookups.index l.program) l.name l.ancestors
