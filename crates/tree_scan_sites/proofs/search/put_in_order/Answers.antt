use Rattle.std.proofs.Common.{ap, rules}
use Rattle.std.specs.Ordering.{is_lt}
use Rattle.std.proofs.lemmas.Fn.{always_returns_same}
use Rattle.tree_scan_sites.specs.Listed.{spelled_order}
use Rattle.tree_scan_sites.proofs.FileLaws.{spelled_ranks, on_ok}
use Rattle.tree_scan_sites.proofs.search.put_in_order.Goals as goal

-- the closure compares by the order of spellings
pub returns-clause-sorted : goal.returns-clause-sorted
returns-clause-sorted c =
    on_ok c.sort_by.result (λ sorts. sorts (λ s t. is_lt (spelled_order s t)) spelled_ranks
    (always_returns_same _ _ _ (λ a r g called. (ap is_lt (search rules), search rules)))) c.sort_by.ensures.sorted
