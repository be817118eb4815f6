use Rattle.std.proofs.Common.{ap, rules}
use Rattle.std.specs.Ordering.{is_lt}
use Rattle.std.proofs.lemmas.Fn.{always_returns_same}
use Rattle.tree_scan_sites.proofs.FileLaws.{on_ok}
use Rattle.eager_order.specs.EagerOrder.{placed_order}
use Rattle.eager_order.proofs.EagerLaws.{placed_ranks}
use Rattle.eager_order.proofs.order.put_in_order.Goals as goal

-- the closure compares by the order of files
pub returns-clause-sorted : goal.returns-clause-sorted
returns-clause-sorted c =
    on_ok c.sort_by.result (λ sorts. sorts (λ a b. is_lt (placed_order a b)) placed_ranks
    (always_returns_same _ _ _ (λ a r g called. (ap is_lt (search rules), search rules)))) c.sort_by.ensures.sorted
