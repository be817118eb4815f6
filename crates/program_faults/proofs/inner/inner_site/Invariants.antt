use Rattle.std.proofs.Common.{◌≡◌, None, find, flat_map, take}
use Rattle.program_files.specs.Files.{has_site}
use Rattle.program_files.specs.Faults.{levels_inside}
use Rattle.program_entries.specs.Seen.{seen}
use Rattle.program_faults.specs.Read.{used_all}
use Rattle.program_faults.proofs.inner.inner_site.Given as goal

abbrev pub invariant-places : goal.invariant-places
invariant-places l = find (has_site (used_all l.files.files.now))
    (flat_map (λ e. levels_inside l.constant (seen e)) (take l.place l.entries)) ≡ None
