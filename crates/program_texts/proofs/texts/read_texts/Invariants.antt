use Rattle.std.proofs.Common.{take}
use Rattle.program_used.specs.Rows.{AreUsed}
use Rattle.program_texts.specs.Read.{AreReadOf}
use Rattle.program_texts.proofs.texts.read_texts.Given as goal

abbrev pub invariant-places : goal.invariant-places
invariant-places l = AreUsed (take l.place l.constants) l.texts.items × AreReadOf (take l.place l.files) l.texts.items
