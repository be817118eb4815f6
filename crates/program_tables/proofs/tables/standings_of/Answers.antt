use Rattle.std.proofs.Common.{◌∙◌}
use Rattle.std.proofs.lemmas.Result.{IfOk-weaker}
use Rattle.program_tables.proofs.TableLaws.{tables_told}
use Rattle.program_tables.proofs.tables.standings_of.Goals as goal

pub returns : goal.returns
returns c = IfOk-weaker c.new.result _ _ (λ s is files same have. is
    ∙ tables_told files c.args.texts.now c.args.outcomes.now c.in_ok-owned.owned.items c.in_ok-spelled.spelled.items
    c.in_ok-marks.marks.items c.in_ok-owned.ensures c.in_ok-spelled.ensures c.in_ok-marks.ensures same have)
    c.new.ensures
