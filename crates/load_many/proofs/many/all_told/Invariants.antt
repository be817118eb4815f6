use Rattle.std.proofs.Common.{◌≡◌, ◌++◌, length}
use Rattle.std.specs.Prelude.{map}
use Rattle.std.specs.Vec.Iter.{into_iter_items, into_iter_len}
use Rattle.by_need_check.specs.Checks.{causes}
use Rattle.load_many.specs.Unknown.{with_error}
use Rattle.load_many.proofs.many.all_told.Given as goal

abbrev pub invariant-failures : goal.invariant-failures
invariant-failures l =
    (l.yielded ++ into_iter_items l.failure-iterator ≡ into_iter_items l.initial.failure-iterator)
    × (l.errors.items ≡ map with_error (causes l.yielded))
    × (into_iter_len l.failure-iterator ≡ length (into_iter_items l.failure-iterator))
