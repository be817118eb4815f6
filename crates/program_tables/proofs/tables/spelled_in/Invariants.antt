use Rattle.std.proofs.Common.{◌≡◌, take}
use Rattle.std.specs.List.{flat_map}
use Rattle.program_tables.specs.Tables.{constant_in}
use Rattle.program_tables.proofs.tables.spelled_in.Given as goal

abbrev pub invariant-texts : goal.invariant-texts
invariant-texts l = l.constants.items ≡ flat_map constant_in (take l.text-index l.texts)
