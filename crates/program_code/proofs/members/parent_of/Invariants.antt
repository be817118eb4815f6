use Rattle.std.proofs.Common.{◌≡◌, length}
use Rattle.program_files.specs.Contents.{first_mention, parent_what}
use Rattle.program_entries.specs.Seen.{seen_all}
use Rattle.program_code.specs.Groups.{given}
use Rattle.program_code.specs.Seen.{placed}
use Rattle.program_code.proofs.members.parent_of.Given as goal

abbrev pub invariant-places : goal.invariant-places
invariant-places l = first_mention (given parent_what (placed (seen_all l.entries) l.left))
    ≡ first_mention (given parent_what (placed (seen_all l.entries) l.group))

abbrev pub decreases-places : goal.decreases-places
decreases-places l = length l.left
