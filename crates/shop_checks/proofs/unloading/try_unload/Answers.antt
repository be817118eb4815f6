use Rattle.std.proofs.Common.{◌≤◌, sym, ap, ◌∙◌, subst}
use Rattle.shop_checks.proofs.Turning.{same_is, sought_taken, sought_row, sought_busy}
use Rattle.shop_checks.proofs.unloading.try_unload.Goals as goal

pub turn-requires-clause-needs : goal.turn-requires-clause-needs
turn-requires-clause-needs g c =
    λ desk legal lags row. (
      (c.requires.seeks.0, ap (λ r. r.seat) row ∙ c.requires.seeks.1),
      subst (λ r. 1 ≤ r.entries) (sym row) c.requires.room,
    )

pub returns-clause-same : goal.returns-clause-same
returns-clause-same g c = same_is g.M.Matter.facts _ c.args.pass.now c.turn.new.pass c.turn.ensures.turned

pub returns-clause-taken : goal.returns-clause-taken
returns-clause-taken g c =
    sought_taken g.M.Matter.facts c.args.pass.now c.turn.new.pass c.turn.result c.turn.ensures.turned

pub returns-clause-row : goal.returns-clause-row
returns-clause-row g c =
    sought_row g.M.Matter.facts c.args.pass.now c.turn.new.pass c.turn.result c.turn.ensures.turned

pub returns-clause-busy : goal.returns-clause-busy
returns-clause-busy g c =
    sought_busy g.M.Matter.facts c.args.pass.now c.turn.new.pass c.turn.result c.turn.ensures.turned
