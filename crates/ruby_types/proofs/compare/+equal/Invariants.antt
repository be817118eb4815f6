use Rattle.std.proofs.Common.{◌≡◌, drop, take, ◌+◌, ◌*◌, max}
use Rattle.ruby_types.specs.declared.value.Value.{size-Value}
use Rattle.ruby_types.specs.declared.value.Value.TheViews.{weight-Value-Array-0, weight-Value-Hash-0}
use Rattle.std.specs.Prelude.{count_by}
use Rattle.ruby_types.specs.Same.{same, same_both, same_each, same_counts}
use Rattle.ruby_types.proofs.compare.+equal.Given as goal

abbrev pub invariant-equal_items-items : goal.invariant-equal_items-items
invariant-equal_items-items l = same_each same (drop l.i l.a) (drop l.i l.b) ≡ same_each same l.a l.b

abbrev pub invariant-equal_pairs-pairs : goal.invariant-equal_pairs-pairs
invariant-equal_pairs-pairs l = same_each same_both (drop l.i l.a) (drop l.i l.b) ≡ same_each same_both l.a l.b

abbrev pub invariant-count-count : goal.invariant-count-count
invariant-count-count l = l.n ≡ count_by (same_both l.p) (take l.q-index l.pairs)

abbrev pub invariant-equal_counts-counts : goal.invariant-equal_counts-counts
invariant-equal_counts-counts l = same_counts same_both (drop l.p-index l.a) l.a l.b ≡ same_counts same_both l.a l.a l.b

abbrev pub decreases-equal : goal.decreases-equal
decreases-equal l = 8 * size-Value l.a.now

abbrev pub decreases-equal_items : goal.decreases-equal_items
decreases-equal_items l = 8 * weight-Value-Array-0 l.a.now + 7

abbrev pub decreases-equal_pairs : goal.decreases-equal_pairs
decreases-equal_pairs l = 8 * weight-Value-Hash-0 l.a.now + 7

abbrev pub decreases-equal_hashes : goal.decreases-equal_hashes
decreases-equal_hashes l = 8 * weight-Value-Hash-0 l.a.now + 7

abbrev pub decreases-equal_counts : goal.decreases-equal_counts
decreases-equal_counts l = 8 * weight-Value-Hash-0 l.a.now + 5

abbrev pub decreases-count : goal.decreases-count
decreases-count l = 8 * max (size-Value l.p.now.0) (size-Value l.p.now.1) + 2

abbrev pub decreases-equal_both : goal.decreases-equal_both
decreases-equal_both l = 8 * max (size-Value l.p.now.0) (size-Value l.p.now.1) + 1

abbrev pub decreases-equal_large : goal.decreases-equal_large
decreases-equal_large l = 8 * weight-Value-Hash-0 l.a.now + 6
