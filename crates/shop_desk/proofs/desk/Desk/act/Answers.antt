use Rattle.std.proofs.Common.{◌≡◌, ◌≤◌, ◌+◌, slice_index, slice_set, ap, ◌∙◌, arith}
use Rattle.system_events.specs.Steps.{kept_of, effect}
use Rattle.system_core.specs.Keeping.{values_used}
use Rattle.shop_base.specs.Passes.{begins}
use Rattle.shop_base.proofs.Gaining.{begins_push}
use Rattle.shop_desk.proofs.Acting.{rows_number, covered_act, acted_row_of}
use Rattle.shop_desk.proofs.Guarding.{done_passes}
use Rattle.shop_desk.proofs.desk.Desk.act.Goals as goal

pub apply-requires-clause-seat : goal.apply-requires-clause-seat
apply-requires-clause-seat g c =
    let rows = rows_number g.M.Matter.facts 64 c.self.inside.system.state c.self.invariant.after in
    omega (arith, rows, c.requires.seat)

pub invariant_of-self : goal.invariant_of-self
invariant_of-self g c =
    let none = done_passes _ c.apply.result _ c.apply.ensures.refused c.in-Done.is in
    let entries : c.self.inside.entries ≡ c.args.self.now.entries = ap (λ d. d.entries) c.self.view_is in
    let values : c.self.inside.values ≡ c.args.self.now.values = ap (λ d. d.values) c.self.view_is in
    let left : c.args.entries + 1 ≤ slice_index c.self.inside.entries c.args.seat =
    rw entries c.requires.entries in
    let left_values : c.args.values + values_used c.args.act ≤ slice_index c.self.inside.values c.args.seat =
    rw values c.requires.values in
    rw (c.shrink.ensures, c.shrink-in-Done.ensures)
    (covered_act g.M.Matter.facts c.self.inside.system c.apply.new.self c.self.inside.entries c.self.inside.values
    c.args.seat (kept_of c.args.act) (values_used c.args.act) c.args.entries c.args.values c.self.invariant
    c.requires.seat left left_values (c.apply.ensures.step none) (c.apply.ensures.done none).1 c.apply.ensures.room
    c.apply.ensures.values)

pub returns-in-Done-clause-row : goal.returns-in-Done-clause-row
returns-in-Done-clause-row g c = λ done r at.
    let none = done_passes _ c.apply.result _ c.apply.ensures.refused c.in-Done.is in
    let seat = c.args.seat in
    let kept = kept_of c.args.act in
    let moved = (c.apply.ensures.done none).1 ∙ ap (λ d. effect g.M.Matter.facts d.state seat kept) c.self.view_is in
    let entries = c.shrink.ensures ∙ ap (λ d. slice_set d.entries seat c.args.entries) c.self.view_is in
    let values = c.shrink-in-Done.ensures ∙ ap (λ d. slice_set d.values seat c.args.values) c.self.view_is in
    acted_row_of g.M.Matter.facts g.met.M.Matter.same_is_equal c.args.self.now seat kept c.args.entries c.args.values
    c.apply.new.self.state c.shrink.new.self c.shrink-in-Done.new.self moved entries values c.tells_legal.ensures.after
    c.tells_legal.ensures.even c.requires.seat r at

pub returns-in-Done-clause-begun : goal.returns-in-Done-clause-begun
returns-in-Done-clause-begun g c = λ done.
    let none = done_passes _ c.apply.result _ c.apply.ensures.refused c.in-Done.is in
    let seat = c.args.seat in
    let kept = kept_of c.args.act in
    let moved = (c.apply.ensures.done none).1 ∙ ap (λ d. effect g.M.Matter.facts d.state seat kept) c.self.view_is in
    ap (λ s. begins seat s.history) moved ∙ begins_push seat c.args.self.now.state.history kept
