use Rattle.std.proofs.Common.{ap, ◌∙◌}
use Rattle.shop_checks.proofs.Turning.{same_row_is, tried_is}
use Rattle.shop_checks.proofs.looking.try_program.Goals as goal

pub turn-requires-clause-needs : goal.turn-requires-clause-needs
turn-requires-clause-needs g c =
    λ desk legal lags row. ((c.requires.unloads.0, ap (λ r. r.seat) row ∙ c.requires.unloads.1), c.requires.program)

pub returns-clause-same : goal.returns-clause-same
returns-clause-same g c =
    same_row_is g.M.Matter.facts _ c.args.pass.now c.turn.new.pass c.turn.ensures.turned
    (c.turn.ensures.turned).makes_it.row

pub returns-clause-tried : goal.returns-clause-tried
returns-clause-tried g c =
    tried_is g.M.Matter.facts c.args.pass.now c.turn.new.pass c.args.program c.turn.result c.turn.ensures.turned
