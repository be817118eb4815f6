use Rattle.std.proofs.Common.{◌≡◌, length}
use Rattle.program_files.specs.Faults.{kind_in}
use Rattle.program_entries.specs.Seen.{seen_all}
use Rattle.program_faults.proofs.own.kind_in.Given as goal

abbrev pub invariant-entries : goal.invariant-entries
invariant-entries l = kind_in (seen_all l.left) l.constant ≡ kind_in (seen_all l.entries) l.constant

abbrev pub decreases-entries : goal.decreases-entries
decreases-entries l = length l.left
