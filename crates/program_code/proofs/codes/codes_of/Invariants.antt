use Rattle.std.proofs.Common.{◌≡◌, [], take}
use Rattle.program_used.specs.Rows.{all_used}
use Rattle.program_outcomes.specs.Outcomes.{listed}
use Rattle.program_tables.specs.Tables.{owned_from}
use Rattle.program_code.specs.Codes.{AreCodesOf}
use Rattle.program_code.proofs.codes.codes_of.Given as goal

abbrev pub invariant-places : goal.invariant-places
invariant-places l = AreCodesOf (all_used l.files l.texts) l.nodes
    (owned_from (listed (all_used l.files l.texts)) 0 (take l.place (all_used l.files l.texts))) l.codes.items
    × (l.files ≡ [] → l.nodes ≡ l.fn.nodes)
