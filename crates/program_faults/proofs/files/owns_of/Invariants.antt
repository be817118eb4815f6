use Rattle.std.proofs.Common.{◌≡◌, map, take}
use Rattle.program_faults.specs.Read.{used_all, own_of}
use Rattle.program_faults.proofs.files.owns_of.Given as goal

abbrev pub invariant-files : goal.invariant-files
invariant-files l = l.owns.items ≡ map own_of (used_all (take l.file-index l.files))
