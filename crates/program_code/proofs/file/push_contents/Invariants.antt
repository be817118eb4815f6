use Rattle.std.proofs.Common.{take}
use Rattle.ruby_nodes.specs.Entries.{Extends}
use Rattle.program_entries.specs.Seen.{seen_all}
use Rattle.program_code.specs.Codes.{AddsContents}
use Rattle.program_code.specs.Groups.{file_named}
use Rattle.program_code.specs.Seen.{placed_groups}
use Rattle.program_code.proofs.file.push_contents.Given as goal

abbrev pub invariant-places : goal.invariant-places
invariant-places l = Extends l.fn.nodes l.nodes
    × AddsContents l.nodes (file_named l.file) l.fn.codes.items l.codes.items
    (placed_groups (seen_all l.entries) (take l.place l.groups))
