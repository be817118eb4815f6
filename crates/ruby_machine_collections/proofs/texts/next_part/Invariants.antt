use Rattle.std.proofs.Common.{◌≡◌}
use Rattle.program_places.specs.Places.{Index}
use Rattle.ruby_machine_collections.specs.Collecting.{parts_left}
use Rattle.ruby_machine_collections.proofs.texts.next_part.Given as goal

abbrev pub invariant-parts : goal.invariant-parts
invariant-parts l = record {
  stays : l.core ≡ l.fn.core;
  goes : (index : Index) → parts_left index l.nodes l.first l.inside l.fn.bytes.items l.fn.core
      ≡ parts_left index l.nodes l.at l.inside l.bytes.items l.fn.core;
}

abbrev pub decreases-parts : goal.decreases-parts
decreases-parts l = l.at
