use Rattle.std.proofs.Common.{◌≡◌, ◌+◌, ◌-◌, ◌/◌, Some, map, slice_get, arith}
use Rattle.std.specs.Ordering.{nat_cmp}
use Rattle.std.specs.Cmp.Lexicographic.{slice_cmp}
use Rattle.std.specs.declared.cmp.Ordering.TheVariants.{Less, Equal, Greater}
use Rattle.case_table.proofs.Order.{get_map, below_more, above_more, none_left, equal_is}
use Rattle.case_table.proofs.find_in.Goals as goal

pub halves-preserved-in-Less : goal.halves-preserved-in-Less
halves-preserved-in-Less g c =
    let at : slice_get (map g.T.Row.pair c.args.rows.now) (c.halves.low + (c.halves.high - c.halves.low) / 2)
    ≡ Some (g.T.Row.pair c.index-rows-middle.result) =
    get_map g.T.Row.pair c.args.rows.now _ c.index-rows-middle.result (omega arith) c.index-rows-middle.is in
    let less : slice_cmp nat_cmp (g.T.Row.pair c.index-rows-middle.result).0 c.args.name.now ≡ Less = (cc) in
    record {
      order = omega arith;
      within = c.halves.invariant.within;
      below = below_more (map g.T.Row.pair c.args.rows.now) _ _ c.args.name.now c.requires at less;
      above = c.halves.invariant.above;
    }

pub returns-in-Equal-clause-found : goal.returns-in-Equal-clause-found
returns-in-Equal-clause-found g c =
    let at : slice_get (map g.T.Row.pair c.args.rows.now) (c.halves.low + (c.halves.high - c.halves.low) / 2)
    ≡ Some (g.T.Row.pair c.index-rows-middle.result) =
    get_map g.T.Row.pair c.args.rows.now _ c.index-rows-middle.result (omega arith) c.index-rows-middle.is in
    let same : slice_cmp nat_cmp (g.T.Row.pair c.index-rows-middle.result).0 c.args.name.now ≡ Equal = (cc) in
    let e : (g.T.Row.pair c.index-rows-middle.result).0 ≡ c.args.name.now = equal_is _ _ same in
    (c.halves.low + (c.halves.high - c.halves.low) / 2, rw (← e, c.code.ensures) at)

pub halves-preserved : goal.halves-preserved
halves-preserved g c =
    let at : slice_get (map g.T.Row.pair c.args.rows.now) (c.halves.low + (c.halves.high - c.halves.low) / 2)
    ≡ Some (g.T.Row.pair c.index-rows-middle.result) =
    get_map g.T.Row.pair c.args.rows.now _ c.index-rows-middle.result (omega arith) c.index-rows-middle.is in
    let more : slice_cmp nat_cmp (g.T.Row.pair c.index-rows-middle.result).0 c.args.name.now ≡ Greater = (cc) in
    record {
      order = omega arith;
      within = omega arith;
      below = c.halves.invariant.below;
      above = above_more (map g.T.Row.pair c.args.rows.now) _ _ c.args.name.now c.requires at more;
    }

pub returns-clause-none : goal.returns-clause-none
returns-clause-none g c = none_left (map g.T.Row.pair c.args.rows.now) c.halves.low c.args.name.now
    c.halves.invariant.below (λ i r h. c.halves.invariant.above i r (omega arith))
