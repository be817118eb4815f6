use Rattle.std.proofs.Common.{◌≡◌, take}
use Rattle.program_faults.specs.Read.{used_all, constants_of}
use Rattle.program_faults.proofs.files.constants_of.Given as goal

abbrev pub invariant-files : goal.invariant-files
invariant-files l = l.constants.items ≡ constants_of (used_all (take l.file-index l.files))
