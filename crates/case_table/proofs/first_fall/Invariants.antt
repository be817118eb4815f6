use Rattle.std.proofs.Common.{◌<◌, ◌≤◌, ◌-◌, length, map}
use Rattle.case_table.specs.Rows.{RisingTo}
use Rattle.case_table.proofs.first_fall.Given as goal

abbrev pub invariant-rows : goal.invariant-rows
invariant-rows g l = record {
  some : 0 < l.n;
  within : l.n ≤ length l.rows;
  rising : RisingTo (map g.T.Row.pair l.rows) l.n;
}

abbrev pub decreases-rows : goal.decreases-rows
decreases-rows g l = length l.rows - l.n
