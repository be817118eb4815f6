use Rattle.std.proofs.Common.{◌≡◌, [], List, replicate}
use Rattle.program_files.specs.Entries.{Entry}
use Rattle.program_code.specs.Seen.{placed_groups}
use Rattle.program_code.proofs.groups.empty_groups.Given as goal

abbrev pub invariant-count : goal.invariant-count
invariant-count l = (es : List Entry) → placed_groups es l.groups.items ≡ replicate l.place []
