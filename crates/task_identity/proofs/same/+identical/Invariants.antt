use Rattle.std.proofs.Common.{◌≡◌, take, ◌+◌, ◌*◌}
use Rattle.ruby_types.specs.declared.value.Value.{size-Value}
use Rattle.ruby_types.specs.declared.value.Value.TheViews.{weight-Value-Array-0, weight-Value-Hash-0}
use Rattle.task_identity.proofs.same.+identical.Given as goal

abbrev pub invariant-identical_items-items : goal.invariant-identical_items-items
invariant-identical_items-items l = take l.i l.a ≡ take l.i l.b

abbrev pub invariant-identical_pairs-pairs : goal.invariant-identical_pairs-pairs
invariant-identical_pairs-pairs l = take l.i l.a ≡ take l.i l.b

abbrev pub decreases-identical : goal.decreases-identical
decreases-identical l = 8 * size-Value l.a.now

abbrev pub decreases-identical_items : goal.decreases-identical_items
decreases-identical_items l = 8 * weight-Value-Array-0 l.a.now + 7

abbrev pub decreases-identical_pairs : goal.decreases-identical_pairs
decreases-identical_pairs l = 8 * weight-Value-Hash-0 l.a.now + 7
