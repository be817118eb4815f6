use Rattle.std.proofs.Common.{rules}
use Rattle.std.proofs.lemmas.List.Sorted.{answers_always}
use Rattle.tree_report.proofs.ListingLaws.{comes_before, comes_before-is-order, sorted_is_ordered}
use Rattle.tree_report.proofs.listing.sort_sites.Goals as goal

pub returns : goal.returns
returns c = record {
  same = c.in_ok-sort_by.ensures.permutation;
  ordered = sorted_is_ordered _
      (c.in_ok-sort_by.ensures.sorted comes_before comes_before-is-order
      (answers_always _ _ _ (λ f a r g h. search rules)));
}
