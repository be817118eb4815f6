use Rattle.shop_checks.proofs.Turning.{compare_is}
use Rattle.shop_checks.proofs.looking.compare.Goals as goal

pub returns-clause-same : goal.returns-clause-same
returns-clause-same g c =
    (compare_is g.M.Matter.facts g.M.Reloads.sources c.args.stamps.now c.args.pass.now c.turn.new.pass c.turn.result
    c.turn.ensures.turned).0

pub returns-clause-seen : goal.returns-clause-seen
returns-clause-seen g c =
    (compare_is g.M.Matter.facts g.M.Reloads.sources c.args.stamps.now c.args.pass.now c.turn.new.pass c.turn.result
    c.turn.ensures.turned).1.0

pub returns-clause-answers : goal.returns-clause-answers
returns-clause-answers g c =
    (compare_is g.M.Matter.facts g.M.Reloads.sources c.args.stamps.now c.args.pass.now c.turn.new.pass c.turn.result
    c.turn.ensures.turned).1.1
