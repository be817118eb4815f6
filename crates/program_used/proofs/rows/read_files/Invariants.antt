use Rattle.std.proofs.Common.{◌≡◌, map, take}
use Rattle.std.specs.Option.{option_map}
use Rattle.program_faults.specs.Read.{used}
use Rattle.program_used.specs.Rows.{all_used}
use Rattle.program_used.proofs.rows.read_files.Given as goal

abbrev pub invariant-places : goal.invariant-places
invariant-places l = map (option_map used) l.reads.items ≡ all_used (take l.place l.files) (take l.place l.rows)
