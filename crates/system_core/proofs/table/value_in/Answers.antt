use Rattle.std.proofs.Common.{◌<◌, sym, ap, ◌∙◌, Some, length, arith}
use Rattle.system_core.proofs.Finding.{lookup_none, lookup_found}
use Rattle.system_core.proofs.table.value_in.Goals as goal

pub offset_bounds-facts-place : goal.offset_bounds-facts-place
offset_bounds-facts-place g c =
    let below : c.in-Some.place < length c.args.facts.now = (c.place_of.ensures.found c.in-Some.place c.in-Some.is).0 in
    omega (arith, below)

pub bounds-facts-place : goal.bounds-facts-place
bounds-facts-place g c = (c.place_of.ensures.found c.in-Some.place c.in-Some.is).0

pub returns-in-None : goal.returns-in-None
returns-in-None g c =
    sym (lookup_none g.M.Matter.facts g.met.M.Matter.same_is_equal c.args.entries.now c.args.facts.now c.args.task.now
    (c.place_of.ensures.none c.in-None.is)).0

pub returns-in-Some : goal.returns-in-Some
returns-in-Some g c =
    let found = c.place_of.ensures.found c.in-Some.place c.in-Some.is in
    ap (λ x. Some x.value) (sym c.index-facts-place.is)
    ∙ sym (lookup_found g.M.Matter.facts g.met.M.Matter.same_is_equal c.args.entries.now c.args.facts.now
    c.args.task.now c.in-Some.place c.index-facts-place.result c.requires.apart found.0 found.1
    c.index-facts-place.is).0
