use Rattle.std.proofs.Common.{◌≡◌, ℕ, ◌<◌, ◌≤◌, ◌-◌, List, Some, length, slice_get, map}
use Rattle.std.specs.Ordering.{nat_cmp}
use Rattle.std.specs.Cmp.Lexicographic.{slice_cmp}
use Rattle.std.specs.declared.cmp.Ordering.TheVariants.{Less, Greater}
use Rattle.case_table.proofs.find_in.Given as goal

abbrev pub invariant-halves : goal.invariant-halves
invariant-halves g l = record {
  order : l.low ≤ l.high;
  within : l.high ≤ length l.rows;
  below : (i : ℕ) (r : List ℕ × ℕ) → i < l.low → slice_get (map g.T.Row.pair l.rows) i ≡ Some r →
      slice_cmp nat_cmp r.0 l.name ≡ Less;
  above : (i : ℕ) (r : List ℕ × ℕ) → l.high ≤ i → slice_get (map g.T.Row.pair l.rows) i ≡ Some r →
      slice_cmp nat_cmp r.0 l.name ≡ Greater;
}

abbrev pub decreases-halves : goal.decreases-halves
decreases-halves g l = l.high - l.low
