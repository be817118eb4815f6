-- The order of a listing.
use Rattle.std.proofs.Common.{◌≡◌, ℕ, Bool, List, AllPairs, slice_index_or, true, false}
use Rattle.std.proofs.Common.{ap, arith}
use Rattle.std.specs.Ordering.{is_lt}
use Rattle.std.specs.Cmp.{IsStrictWeakOrder}
use Rattle.std.specs.List.Sorted.{IsSortedBy}
use Rattle.std.proofs.lemmas.Cmp.{nat_list_cmp_total}
use Rattle.std.proofs.lemmas.List.Sorted.{ranks_by, sorted_far}
use Rattle.outside.specs.Order.{order, IsBefore}
use Rattle.tree_report.specs.declared.listing.ListedSite.{ListedSite}

-- the order of sites by their printed paths
abbrev pub comes_before : ListedSite → ListedSite → Bool
comes_before site other = is_lt (order site.constant other.constant)

-- that a site comes before another by its printed path is an order
pub comes_before-is-order : IsStrictWeakOrder comes_before
comes_before-is-order = ranks_by nat_list_cmp_total (λ (site : ListedSite). site.constant)

not_before : (a b : List ℕ) → is_lt (order a b) ≡ false → IsBefore a b → ⊥
not_before a b f h = let t : is_lt (order a b) ≡ true = ap is_lt h in cc

-- sorted sites are in order
pub sorted_is_ordered : (sites : List ListedSite) → IsSortedBy comes_before sites →
    AllPairs (λ (site later : ListedSite). ¬ (IsBefore later.constant site.constant)) sites
sorted_is_ordered sites up = λ i j d low high before.
    not_before (slice_index_or sites j d).constant (slice_index_or sites i d).constant
    (sorted_far comes_before comes_before-is-order sites up i j d (omega arith) high) before
