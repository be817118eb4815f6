use Rattle.std.proofs.Common.{[], ◌∷◌, length, length-append, ap, arith}
use Rattle.system_events.specs.declared.event.Kept.TheVariants.{Refuse}
use Rattle.shop_base.specs.Passes.{entry}
use Rattle.shop_desk.proofs.Acting.{on_err_map}
use Rattle.shop.proofs.Turns.{held_left, gains_one, made_turn, unmoved, on_ok_if, if_ok_map}
use Rattle.shop.proofs.shop.Shop.refuse.Goals as goal

pub invariant_of-pass : goal.invariant_of-pass
invariant_of-pass g c =
    held_left g.M.Matter.facts c.refuse-refused.new.self c.enter-desk.new.ticket c.leave.new.ticket
    c.leave.new.generation
    c.pass.inside.sought c.leave.ensures.left c.leave.ensures.after c.leave.ensures.generation

pub leave-requires-clause-entry : goal.leave-requires-clause-entry
leave-requires-clause-entry g c =
    gains_one c.enter-desk.result c.refuse-refused.new.self c.pass.inside.ticket c.enter-desk.new.ticket
    c.number-number.result c.enter-desk.ensures.turn c.number-number.ensures.same c.refuse-refused.ensures.gained

pub returns-clause-made : goal.returns-clause-made
returns-clause-made g c =
    on_ok_if c.refuse-refused.result _ _ (λ place entered.
    made_turn c.enter-desk.result c.refuse-refused.new.self c.pass.inside.ticket c.enter-desk.new.ticket
    c.leave.new.ticket c.pass.inside.sought c.args.pass.now c.number-number.result (Refuse c.args.cause)
    c.pass.view_is c.leave.ensures.left c.enter-desk.ensures.seen c.number-number.ensures.same entered.1)
    c.refuse-refused.ensures.entry

pub returns-clause-place : goal.returns-clause-place
returns-clause-place g c =
    if_ok_map c.refuse-refused.result _ _ (λ place entered.
    let seen_is = ap (λ t. length t.seen) c.leave.ensures.left in
    let gained = ap length entered.1 in
    let longer = length-append c.enter-desk.result.state.history
    (entry c.number-number.result (Refuse c.args.cause) ∷ []) in
    let at = entered.0 in omega (arith, seen_is, gained, longer, at)) c.refuse-refused.ensures.entry

pub returns-clause-refused : goal.returns-clause-refused
returns-clause-refused g c =
    on_err_map c.refuse-refused.result _ _ (λ same.
    (unmoved c.enter-desk.result c.refuse-refused.new.self c.pass.inside.ticket c.enter-desk.new.ticket
    c.leave.new.ticket c.pass.inside.sought c.args.pass.now c.pass.view_is c.enter-desk.ensures.turn
    c.leave.ensures.left c.enter-desk.ensures.seen c.enter-desk.ensures.row same).1) c.refuse-refused.ensures.refused
