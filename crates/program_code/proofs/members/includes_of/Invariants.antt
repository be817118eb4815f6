use Rattle.std.proofs.Common.{◌≡◌, take, map}
use Rattle.program_files.specs.Contents.{include_what}
use Rattle.program_entries.specs.Seen.{seen_all}
use Rattle.program_lookups.specs.Codes.{mention_of}
use Rattle.program_code.specs.Groups.{given}
use Rattle.program_code.specs.Seen.{placed}
use Rattle.program_code.proofs.members.includes_of.Given as goal

abbrev pub invariant-places : goal.invariant-places
invariant-places l = map mention_of l.mentions.items
    ≡ given include_what (placed (seen_all l.entries) (take l.place-index l.group))
