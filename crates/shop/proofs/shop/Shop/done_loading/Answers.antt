use Rattle.std.proofs.Common.{◌-◌, sym, ap, ◌∙◌}
use Rattle.shop_base.specs.Rows.{with_room, calm_seat, exclusive_seat}
use Rattle.shop.proofs.shop.Shop.done_loading.Goals as goal

pub leave_section-requires-clause-exclusive : goal.leave_section-requires-clause-exclusive
leave_section-requires-clause-exclusive g c =
    let at = c.requires.loads.1.1 in
    (c.requires.loads.1.0, at ∙ ap (λ r. exclusive_seat r.running c.requires.loads.1.0) (sym at))

pub returns-clause-row : goal.returns-clause-row
returns-clause-row g c =
    λ begun opened at.
    ap (λ p. p.row) c.leave_section.ensures.same
    ∙ ap (λ r. with_room (calm_seat r.running) (c.args.pass.now.row.entries - 2) c.args.pass.now.row.values) at
