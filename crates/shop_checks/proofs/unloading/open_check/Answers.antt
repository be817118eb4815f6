use Rattle.std.proofs.Common.{ap, ◌∙◌}
use Rattle.shop_checks.proofs.Turning.{same_is, open_agrees, open_taken, open_seeking, open_refused}
use Rattle.shop_checks.proofs.unloading.open_check.Goals as goal

pub turn-requires-clause-needs : goal.turn-requires-clause-needs
turn-requires-clause-needs g c = λ desk legal lags row. ap (λ r. r.seat) row ∙ c.requires.shares

pub returns-clause-same : goal.returns-clause-same
returns-clause-same g c = same_is g.M.Matter.facts _ c.args.pass.now c.turn.new.pass c.turn.ensures.turned

pub returns-clause-agrees : goal.returns-clause-agrees
returns-clause-agrees g c =
    open_agrees g.M.Matter.facts g.M.Reloads.sources c.args.stamps.now c.args.pass.now c.turn.new.pass c.turn.result
    c.turn.ensures.turned

pub returns-clause-taken : goal.returns-clause-taken
returns-clause-taken g c =
    open_taken g.M.Matter.facts g.M.Reloads.sources c.args.stamps.now c.args.pass.now c.turn.new.pass c.turn.result
    c.turn.ensures.turned

pub returns-clause-seeking : goal.returns-clause-seeking
returns-clause-seeking g c =
    open_seeking g.M.Matter.facts g.M.Reloads.sources c.args.stamps.now c.args.pass.now c.turn.new.pass c.turn.result
    c.turn.ensures.turned

pub returns-clause-refused : goal.returns-clause-refused
returns-clause-refused g c =
    open_refused g.M.Matter.facts g.M.Reloads.sources c.args.stamps.now c.args.pass.now c.turn.new.pass c.turn.result
    c.turn.ensures.turned
