use Rattle.std.proofs.Common.{◌∙◌, ap}
use Rattle.load_table.proofs.table.TableTableTaskValue.define.Goals as goal

pub define-requires-clause-lacks : goal.define-requires-clause-lacks
define-requires-clause-lacks c = ap (λ values. values c.args.task) c.in_ok-reserve.ensures.same ∙ c.requires

pub returns-clause-old : goal.returns-clause-old
returns-clause-old c = λ u differs.
    c.define.ensures.old u differs ∙ ap (λ values. values u) c.in_ok-reserve.ensures.same
