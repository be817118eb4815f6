use Rattle.shop_desk.proofs.Acting.{on_err_map}
use Rattle.shop.proofs.Turns.{held_left, gains_one, unmoved}
use Rattle.shop.proofs.shop.Shop.first_share.Goals as goal

pub invariant_of-pass : goal.invariant_of-pass
invariant_of-pass g c =
    held_left g.M.Matter.facts c.first_share-shared.new.self c.enter-desk.new.ticket c.leave.new.ticket
    c.leave.new.generation
    c.pass.inside.sought c.leave.ensures.left c.leave.ensures.after c.leave.ensures.generation

pub leave-requires-clause-entry : goal.leave-requires-clause-entry
leave-requires-clause-entry g c =
    gains_one c.enter-desk.result c.first_share-shared.new.self c.pass.inside.ticket c.enter-desk.new.ticket
    c.number-number.result c.enter-desk.ensures.turn c.number-number.ensures.same c.first_share-shared.ensures.gained

pub returns-clause-err : goal.returns-clause-err
returns-clause-err g c =
    on_err_map c.first_share-shared.result _ _ (λ same.
    unmoved c.enter-desk.result c.first_share-shared.new.self c.pass.inside.ticket c.enter-desk.new.ticket
    c.leave.new.ticket c.pass.inside.sought c.args.pass.now c.pass.view_is c.enter-desk.ensures.turn
    c.leave.ensures.left c.enter-desk.ensures.seen c.enter-desk.ensures.row same) c.first_share-shared.ensures.err
