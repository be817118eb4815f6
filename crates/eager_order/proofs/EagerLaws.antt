-- Files in eager order.
use Rattle.std.proofs.Common.{◌≡◌, ◌≢◌, ◌⊎◌, ℕ, ◌<◌, true, false, List, [], length, map, get_or, AllPairs, All}
use Rattle.std.proofs.Common.{refl, sym, ap, ◌∙◌, subst, inl, inr, arith, nat_eq}
use Rattle.std.specs.Cmp.{IsTotalOrder, IsStrictWeakOrder, nat_eq_equiv}
use Rattle.std.specs.List.{IsDistinct}
use Rattle.std.specs.List.Sorted.{IsPermutation, IsSorted}
use Rattle.std.specs.Ordering.{nat_cmp, ordering_then, ordering_reverse, is_lt}
use Rattle.std.specs.declared.cmp.Ordering.{Ordering}
use Rattle.std.specs.declared.cmp.Ordering.TheVariants.{Less, Equal, Greater}
use Rattle.std.proofs.lemmas.Bool.{false≢true, false_from_ne_true, eqb-true}
use Rattle.std.proofs.lemmas.Cmp.{nat_cmp_total, on_total, then_total}
use Rattle.std.proofs.lemmas.List.{length-map}
use Rattle.std.proofs.lemmas.Map.Keys.{IsDistinct-IsPermutation, IsDistinct-from_apart, apart_from_distinct}
use Rattle.std.proofs.lemmas.List.Sorted.{ranks_by, sorted_far, IsPermutation-map, All-permutation}
use Rattle.outside.specs.Order.{Rising, IsBefore}
use Rattle.outside.specs.Tree.{paths_of}
use Rattle.outside.specs.declared.files.FileEntry.{FileEntry}
use Rattle.outside.proofs.TableLaws.{not_before_itself}
use Rattle.plain_text.specs.Segments.{slash, segments}
use Rattle.std.specs.List.{join_with_byte}
use Rattle.plain_text.proofs.SegmentLaws.{are_segments}
use Rattle.tree_scan_sites.specs.Paths.{path_order}
use Rattle.tree_scan_sites.proofs.OrderLaws.{path_order_total, exact_paths}
use Rattle.tree_scan_roots.specs.declared.roots.Root.{Root}
use Rattle.tree_scan.specs.Sites.{path_at}
use Rattle.tree_scan.proofs.PathLaws.{at_path, at_map}
use Rattle.eager_order.specs.EagerOrder.{placed_order, ComesBefore, AreInEagerOrder}
use Rattle.eager_order.specs.Placed.{IsPlaced}
use Rattle.eager_order.specs.declared.placed.PlacedFile.{PlacedFile}

-- the order of files is total, so that they can be sorted
pub placed_total : IsTotalOrder placed_order
placed_total = then_total (on_total (λ p. p.root) nat_cmp_total)
    (then_total (on_total (λ p. length p.segments) nat_cmp_total) (on_total (λ p. p.segments) path_order_total))

-- files are ordered by their order
pub placed_ranks : IsStrictWeakOrder (λ (a : PlacedFile) (b : PlacedFile). is_lt (placed_order a b))
placed_ranks = ranks_by placed_total (λ p. p)

-- ---- two files that tie are one
then_equal : (o u : Ordering) → ordering_then o u ≡ Equal → u ≡ Equal
then_equal Less u h = cc
then_equal Equal u h = h
then_equal Greater u h = cc

tied_segments : (a b : PlacedFile) → placed_order a b ≡ Equal → a.segments ≡ b.segments
tied_segments a b h = exact_paths a.segments b.segments
    (then_equal (nat_cmp (length a.segments) (length b.segments)) (path_order a.segments b.segments)
    (then_equal (nat_cmp a.root b.root) (ordering_then (nat_cmp (length a.segments) (length b.segments))
    (path_order a.segments b.segments)) h))

-- paths with the same segments are the same
one_path : (p q : List ℕ) → segments p ≡ segments q → p ≡ q
one_path p q e = sym (are_segments p).2 ∙ ap (join_with_byte slash) e ∙ (are_segments q).2

three : (m n : ℕ) → (m < n) ⊎ ((n < m) ⊎ (m ≡ n))
three m n = grind arith

-- of two files the one of the lesser number has another path
not_below : (files : List FileEntry) (m n : ℕ) → Rising (paths_of files) → n < length files →
    path_at files m ≡ path_at files n → m < n → ⊥
not_below files m n rises within same lt =
    let short : m < length files = omega arith in
    let before : IsBefore (get_or (paths_of files) m []) (get_or (paths_of files) n []) =
    rises m n [] lt (rw (length-map files (λ f. f.path)) within) in
    not_before_itself (path_at files n)
    (subst (λ p. IsBefore p (path_at files n)) (at_path files m [] short ∙ same)
    (subst (λ q. IsBefore (get_or (paths_of files) m []) q) (at_path files n [] within) before))

-- a path is that of one file
one_number : (files : List FileEntry) (m n : ℕ) → Rising (paths_of files) → m < length files → n < length files →
    path_at files m ≡ path_at files n → m ≡ n
one_number files m n rises low high same = elim (three m n) [
  | inl lt ↦ absurd (not_below files m n rises high same lt)
  | inr rest ↦ elim rest [
    | inl gt ↦ absurd (not_below files n m rises low (sym same) gt)
    | inr e ↦ e
  ]
]

-- ---- numbers that differ do so in whatever order they stand
differ : (m n : ℕ) → m ≢ n → nat_eq m n ≡ false
differ m n ne = false_from_ne_true (nat_eq m n) (λ h. ne (eqb-true m n h))

equal_is : (m n : ℕ) → m ≡ n → nat_eq m n ≡ true
equal_is m n e = rw e (nat_eq_equiv.refl n)

-- numbers that differ do so in whatever order they stand
pub apart : (numbers ordered : List ℕ) → AllPairs (λ m n. m ≢ n) numbers → IsPermutation numbers ordered →
    AllPairs (λ m n. m ≢ n) ordered
apart numbers ordered once moved i j d lt short same =
    let kept : IsDistinct nat_eq ordered = IsDistinct-IsPermutation nat_eq nat_eq_equiv.symm numbers ordered moved
    (IsDistinct-from_apart nat_eq numbers (λ k l e below within.
    differ (get_or numbers k e) (get_or numbers l e) (once k l e below within))) in
    false≢true (sym (apart_from_distinct nat_eq ordered i j d kept lt short)
    ∙ equal_is (get_or ordered i d) (get_or ordered j d) same)

-- of files in order that don't tie the first comes before
less_unless_tied : (a b : PlacedFile) → is_lt (placed_order b a) ≡ false → (placed_order a b ≡ Equal → ⊥) →
    placed_order a b ≡ Less
less_unless_tied a b h untied =
    elim (placed_order a b) as (λ o. placed_order b a ≡ ordering_reverse o → (o ≡ Equal → ⊥) → o ≡ Less) [
      | Less ↦ λ e u. refl
      | Equal ↦ λ e u. absurd (u refl)
      | Greater ↦ λ e u. absurd (false≢true (sym h ∙ ap is_lt e))
    ] (placed_total.antisymm b a) untied

module _ (roots : List Root) (files : List FileEntry) (rises : Rising (paths_of files)) where
  -- files that tie have one number
  tied_number : (a b : PlacedFile) → IsPlaced roots files a → IsPlaced roots files b → placed_order a b ≡ Equal →
      a.file ≡ b.file
  tied_number a b p q tie = one_number files a.file b.file rises p.within q.within
      (one_path (path_at files a.file) (path_at files b.file) (sym p.cut ∙ tied_segments a b tie ∙ q.cut))

  -- the order of two placed files is that of their numbers
  as_numbers : (a b : PlacedFile) → IsPlaced roots files a → IsPlaced roots files b → placed_order a b ≡ Less →
      ComesBefore roots files a.file b.file
  as_numbers a b p q less = record {
    root = a.root;
    other_root = b.root;
    below = p.below;
    other_below = q.below;
    before = rw (sym p.cut, sym q.cut) less;
  }

  -- sorted files with other numbers come one before another
  pub sorted_rise : (placed : List PlacedFile) → IsSorted placed_order placed → All (IsPlaced roots files) placed →
      AllPairs (λ m n. m ≢ n) (map (λ p. p.file) placed) →
      AllPairs (ComesBefore roots files) (map (λ p. p.file) placed)
  sorted_rise placed sorted all apart i j d lt short =
      let shorter : j < length placed = rw (sym (length-map placed (λ p. p.file))) short in
      let at : ℕ → PlacedFile = λ k. get_or placed k (record { root = 0; segments = []; file = d }) in
      let low : get_or (map (λ p. p.file) placed) i d ≡ (at i).file =
      at_map (λ p. p.file) placed i d (record { root = 0; segments = []; file = d }) (omega (arith, lt, shorter)) in
      let high : get_or (map (λ p. p.file) placed) j d ≡ (at j).file =
      at_map (λ p. p.file) placed j d (record { root = 0; segments = []; file = d }) shorter in
      rw (low, high)
      (as_numbers (at i) (at j) (all i (record { root = 0; segments = []; file = d }) (omega (arith, lt, shorter)))
      (all j (record { root = 0; segments = []; file = d }) shorter)
      (less_unless_tied (at i) (at j)
      (sorted_far (λ a b. is_lt (placed_order a b)) placed_ranks placed sorted i j
      (record { root = 0; segments = []; file = d }) (omega arith) shorter)
      (λ tie.
      apart i j d lt short (low
      ∙ tied_number (at i) (at j)
      (all i (record { root = 0; segments = []; file = d }) (omega (arith, lt, shorter)))
      (all j (record { root = 0; segments = []; file = d }) shorter) tie
      ∙ sym high))))

-- files placed and sorted are in eager order
pub in_order : (roots : List Root) (files : List FileEntry) (numbers : List ℕ) (placed sorted : List PlacedFile) →
    Rising (paths_of files) → AllPairs (λ m n. m ≢ n) numbers → map (λ p. p.file) placed ≡ numbers →
    All (IsPlaced roots files) placed → IsPermutation placed sorted → IsSorted placed_order sorted →
    AreInEagerOrder roots files numbers (map (λ p. p.file) sorted)
in_order roots files numbers placed sorted rises once are all moved ordered =
    let same : IsPermutation numbers (map (λ p. p.file) sorted) =
    subst (λ ns. IsPermutation ns (map (λ p. p.file) sorted)) are
    (IsPermutation-map (λ p. p.file) placed sorted moved) in
    record {
      same = same;
      rising = sorted_rise roots files rises sorted ordered
          (All-permutation (IsPlaced roots files) placed sorted moved all)
          (apart numbers (map (λ p. p.file) sorted) once same);
    }
