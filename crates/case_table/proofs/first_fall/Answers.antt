use Rattle.std.proofs.Common.{◌≡◌, ◌-◌, Some, map, slice_get, arith}
use Rattle.std.specs.Ordering.{nat_cmp}
use Rattle.std.specs.Cmp.Lexicographic.{slice_cmp}
use Rattle.std.specs.declared.cmp.Ordering.TheVariants.{Less}
use Rattle.case_table.proofs.Order.{get_map, rising_more}
use Rattle.case_table.proofs.first_fall.Goals as goal

pub rows-preserved : goal.rows-preserved
rows-preserved g c =
    let at : slice_get (map g.T.Row.pair c.args.rows.now) (c.rows.n - 1)
    ≡ Some (g.T.Row.pair c.index-rows-n.result) = get_map g.T.Row.pair c.args.rows.now _ c.index-rows-n.result
    (omega arith) c.index-rows-n.is in
    let at2 : slice_get (map g.T.Row.pair c.args.rows.now) c.rows.n
    ≡ Some (g.T.Row.pair c.index-rows-n-in-rows.result) =
    get_map g.T.Row.pair c.args.rows.now _ c.index-rows-n-in-rows.result (omega arith) c.index-rows-n-in-rows.is in
    let less : slice_cmp nat_cmp (g.T.Row.pair c.index-rows-n.result).0
    (g.T.Row.pair c.index-rows-n-in-rows.result).0 ≡ Less = (cc) in
    record {
      some = omega arith;
      within = omega arith;
      rising = rising_more (map g.T.Row.pair c.args.rows.now) c.rows.n (c.rows.n - 1) _ _
          (omega arith) c.rows.invariant.rising at at2 less;
    }

pub returns-in_default : goal.returns-in_default
returns-in_default g c =
    let at : slice_get (map g.T.Row.pair c.args.rows.now) (c.rows.n - 1)
    ≡ Some (g.T.Row.pair c.index-rows-n.result) = get_map g.T.Row.pair c.args.rows.now _ c.index-rows-n.result
    (omega arith) c.index-rows-n.is in
    let at2 : slice_get (map g.T.Row.pair c.args.rows.now) c.rows.n
    ≡ Some (g.T.Row.pair c.index-rows-n-in-rows.result) =
    get_map g.T.Row.pair c.args.rows.now _ c.index-rows-n-in-rows.result (omega arith) c.index-rows-n-in-rows.is in
    let no : slice_cmp nat_cmp (g.T.Row.pair c.index-rows-n.result).0 (g.T.Row.pair c.index-rows-n-in-rows.result).0
    ≡ Less → ⊥ = λ h. c.in_default.not-Less (cc) in
    record {
      within = c.rows.invariant.within;
      rising = c.rows.invariant.rising;
      fall = λ h. record {
        before = c.rows.n - 1;
        earlier = g.T.Row.pair c.index-rows-n.result;
        later = g.T.Row.pair c.index-rows-n-in-rows.result;
        next = omega arith;
        earlier_at = at;
        later_at = at2;
        falls = no;
        rises = c.rows.invariant.rising;
      };
    }
