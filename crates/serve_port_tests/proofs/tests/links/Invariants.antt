use Rattle.std.proofs.Common.{All, Some}
use Rattle.outside_links.specs.LinkState.{IsUnused}
use Rattle.serve_port_tests.proofs.tests.links.Given as goal

abbrev pub invariant-count : goal.invariant-count
invariant-count l = All (λ link. IsUnused link.read_faults link.write_faults (Some link.was_read) (Some link.written))
    l.links.items
