use Rattle.std.proofs.Common.{◌≡◌, length}
use Rattle.std.specs.List.{list_any}
use Rattle.program_files.specs.Faults.{is_outside}
use Rattle.program_entries.specs.Seen.{seen_all}
use Rattle.program_faults.proofs.tests_of_entries.any_outside.Given as goal

abbrev pub invariant-entries : goal.invariant-entries
invariant-entries l = list_any (is_outside l.constant) (seen_all l.left)
    ≡ list_any (is_outside l.constant) (seen_all l.entries)

abbrev pub decreases-entries : goal.decreases-entries
decreases-entries l = length l.left
