use Rattle.std.proofs.Common.{◌≡◌, length}
use Rattle.program_entries.specs.Seen.{seen_all}
use Rattle.program_code.specs.Groups.{first_kind}
use Rattle.program_code.specs.Seen.{placed}
use Rattle.program_code.proofs.definitions.first_definition.Given as goal

abbrev pub invariant-places : goal.invariant-places
invariant-places l = first_kind (placed (seen_all l.entries) l.left)
    ≡ first_kind (placed (seen_all l.entries) l.group)

abbrev pub decreases-places : goal.decreases-places
decreases-places l = length l.left
