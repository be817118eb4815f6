use Rattle.shop.proofs.Turns.{gains_one, turned_is}
use Rattle.shop.proofs.shop.Shop.turn.Goals as goal

pub leave-requires-clause-entry : goal.leave-requires-clause-entry
leave-requires-clause-entry g c =
    gains_one c.enter-desk.result c.act-answer.new.desk c.pass.inside.ticket c.enter-desk.new.ticket
    c.number-number.result c.enter-desk.ensures.turn c.number-number.ensures.same c.act-answer.ensures.gained

pub returns : goal.returns
returns g c = record {
  turned = turned_is g.M.Matter.facts (λ k before now. g.A.TurnAct.makes c.args.act k before c.act-answer.result now)
      c.enter-desk.result c.act-answer.new.desk c.pass.inside.ticket c.enter-desk.new.ticket c.leave.new.ticket
      c.pass.inside.sought c.args.pass.now c.number-number.result c.pass.view_is c.enter-desk.ensures.turn
      c.leave.ensures.left c.enter-desk.ensures.seen c.enter-desk.ensures.row c.number-number.ensures.same
      c.tells_legal.ensures.after c.leave.ensures.after c.act-answer.ensures.makes;
}
