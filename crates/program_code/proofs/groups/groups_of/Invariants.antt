use Rattle.std.proofs.Common.{◌≡◌, take}
use Rattle.program_entries.specs.Seen.{seen_all}
use Rattle.program_code.specs.Groups.{groups}
use Rattle.program_code.specs.Seen.{placed_groups}
use Rattle.program_code.proofs.groups.groups_of.Given as goal

abbrev pub invariant-places : goal.invariant-places
invariant-places l = placed_groups (seen_all l.entries) l.groups.items
    ≡ groups (take l.place (seen_all l.entries)) l.table
