use Rattle.std.proofs.Common.{◌≡◌, find, length}
use Rattle.program_files.specs.Faults.{opens_otherwise}
use Rattle.program_entries.specs.Seen.{seen_all}
use Rattle.program_faults.specs.Read.{used, used_all}
use Rattle.program_faults.proofs.verdict.first_otherwise.Given as goal

abbrev pub invariant-entries : goal.invariant-entries
invariant-entries l = find (opens_otherwise (used_all l.files.files.now) (used l.file)) (seen_all l.left)
    ≡ find (opens_otherwise (used_all l.files.files.now) (used l.file)) (seen_all l.entries)

abbrev pub decreases-entries : goal.decreases-entries
decreases-entries l = length l.left
