use Rattle.std.proofs.Common.{◌≡◌, ◌-◌, min, cond, is_some, length, vec_len, vec_capacity, sym, ap, ◌∙◌}
use Rattle.std.proofs.Common.{arith}
use Rattle.system_seats.specs.Seats.{row, mark}
use Rattle.system_laws.proofs.Others.{rows_stay, marks_stay}
use Rattle.system_core.specs.Keeping.{values_used}
use Rattle.system_core.specs.Seated.{seat_guard}
use Rattle.system_core.proofs.Fields.{used_is, some_room, kept_after}
use Rattle.system_core.proofs.Passing.{seat_passes}
use Rattle.system_core.proofs.system.System.enter.Goals as goal

pub move_seats-requires-clause-passed : goal.move_seats-requires-clause-passed
move_seats-requires-clause-passed g c =
    (λ i. seat_guard (ap (λ b. b.state.seats) c.self.view_is i) c.args.event.seat (c.split_act-kept.ensures.kept i))
    ∙ seat_passes g.M.Matter.facts c.args.self.now.state c.args.event.seat _ c.requires.passed

pub move_table-requires-clause-facts_room : goal.move_table-requires-clause-facts_room
move_table-requires-clause-facts_room g c = λ some.
    let room = some_room c.args.event.act _ c.args.self.now.values c.split_act-kept.ensures.value c.requires.values
    some in
    let values : min (vec_capacity c.self.inside.facts - vec_len c.self.inside.facts) c.self.inside.places.room
    ≡ c.args.self.now.values = ap (λ b. b.values) c.self.view_is in
    omega (arith, room, values)

pub move_table-requires-clause-places_room : goal.move_table-requires-clause-places_room
move_table-requires-clause-places_room g c = λ some.
    let room = some_room c.args.event.act _ c.args.self.now.values c.split_act-kept.ensures.value c.requires.values
    some in
    let values : min (vec_capacity c.self.inside.facts - vec_len c.self.inside.facts) c.self.inside.places.room
    ≡ c.args.self.now.values = ap (λ b. b.values) c.self.view_is in
    omega (arith, room, values)

pub invariant_of-self : goal.invariant_of-self
invariant_of-self g c =
    let at : c.len-place.result ≡ length c.self.inside.entries.items =
    omega (arith, c.len-place.ensures, c.self.inside.entries.ok.0) in
    (kept_after g.M.Matter.facts _ _ _ _ _ _ _ _ _ _ _ _ _ _ c.args.event.seat c.args.event.act _ _ c.self.view_is
    c.self.invariant c.requires.seat c.requires.passed c.requires.condition c.requires.known
    c.split_act-kept.ensures.kept c.split_act-kept.ensures.value at c.push_reserved.ensures.items c.move_seats.ensures
    c.move_table.ensures.facts c.move_table.ensures.places c.move_counts.ensures).0

pub returns-clause-state : goal.returns-clause-state
returns-clause-state g c =
    let at : c.len-place.result ≡ length c.self.inside.entries.items =
    omega (arith, c.len-place.ensures, c.self.inside.entries.ok.0) in
    (kept_after g.M.Matter.facts _ _ _ _ _ _ _ _ _ _ _ _ _ _ c.args.event.seat c.args.event.act _ _ c.self.view_is
    c.self.invariant c.requires.seat c.requires.passed c.requires.condition c.requires.known
    c.split_act-kept.ensures.kept c.split_act-kept.ensures.value at c.push_reserved.ensures.items c.move_seats.ensures
    c.move_table.ensures.facts c.move_table.ensures.places c.move_counts.ensures).1

pub returns-clause-values : goal.returns-clause-values
returns-clause-values g c =
    let values : min (vec_capacity c.self.inside.facts - vec_len c.self.inside.facts) c.self.inside.places.room
    ≡ c.args.self.now.values = ap (λ b. b.values) c.self.view_is in
    let used : values_used c.args.event.act ≡ cond (is_some c.split_act-kept.result.1) 1 0 =
    used_is c.args.event.act ∙ ap (λ o. cond (is_some o) 1 0) (sym c.split_act-kept.ensures.value) in
    omega (arith, values, used, c.move_table.ensures.facts_left, c.move_table.ensures.places_left)

pub returns-clause-others : goal.returns-clause-others
returns-clause-others g c = λ seat other. (
  ap (λ x. row x seat) c.move_seats.ensures ∙ (rows_stay c.self.inside.seats c.len-place.result c.args.event.seat
      c.split_act-kept.result.0 seat other ∙ ap (λ b. row b.state.seats seat) c.self.view_is),
  ap (λ x. mark x seat) c.move_seats.ensures ∙ (marks_stay c.self.inside.seats c.len-place.result c.args.event.seat
      c.split_act-kept.result.0 seat other ∙ ap (λ b. mark b.state.seats seat) c.self.view_is),
)
