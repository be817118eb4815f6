use Rattle.std.proofs.Common.{◌≡◌, map, filter, take}
use Rattle.program_files.specs.Faults.{is_definition, kind_of}
use Rattle.program_entries.specs.Seen.{seen_all}
use Rattle.program_tasks.proofs.definitions.defined_constants.Given as goal

abbrev pub invariant-places : goal.invariant-places
invariant-places l = l.constants.items ≡ map (λ e. e.constant)
    (filter is_definition (seen_all (take l.place l.entries)))
