use Rattle.std.proofs.Common.{All, Some}
use Rattle.outside_links.specs.LinkState.{IsUnused}
use Rattle.outside_links.proofs.tests.unused_links.Given as goal

abbrev pub invariant-texts : goal.invariant-texts
invariant-texts l = All (λ link. IsUnused link.read_faults link.write_faults (Some link.was_read) (Some link.written))
    l.links.items
