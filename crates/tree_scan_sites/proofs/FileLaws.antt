-- Spellings in order, and the first file of a constant.
use Rattle.std.proofs.Common.{◌≡◌, ℕ, zero, suc, ◌<◌, ◌≤◌, ◌+◌, true, false, cond, List, [], ◌∷◌, length, get_or, drop}
use Rattle.std.proofs.Common.{Option, Some, None, Result, Ok, Err, refl, sym, ap, ◌∙◌, subst, inl, inr, arith}
use Rattle.std.specs.Prelude.{OnOk}
use Rattle.std.specs.Cmp.{IsTotalOrder, IsStrictWeakOrder}
use Rattle.std.specs.List.{AllWithin}
use Rattle.std.specs.List.Sorted.{IsSorted, IsPartitionedBy}
use Rattle.std.specs.Ordering.{nat_cmp, ordering_then, ordering_reverse, is_gt, is_lt, is_eq}
use Rattle.std.specs.declared.cmp.Ordering.{Ordering}
use Rattle.std.specs.declared.cmp.Ordering.TheVariants.{Less, Equal, Greater}
use Rattle.std.proofs.lemmas.Bool.{false≢true}
use Rattle.std.proofs.lemmas.Cmp.{nat_cmp_total, on_total, then_total, ranked, by_ranked}
use Rattle.std.proofs.lemmas.List.{drop_all, drop_more}
use Rattle.std.proofs.lemmas.List.Sorted.{ranks_by, sorted_far}
use Rattle.tree_scan_sites.specs.declared.spelled.Spelled.{Spelled}
use Rattle.tree_scan_sites.specs.Paths.{path_order}
use Rattle.tree_scan_sites.specs.Sites.{NoLater, IsFileOf}
use Rattle.tree_scan_sites.specs.Listed.{Lists, spelled_order, comes_before, first_file}
use Rattle.tree_scan_sites.proofs.OrderLaws.{path_order_total, exact_paths, order_itself, upto_before, earlier_is}
use Rattle.tree_scan_sites.proofs.OrderLaws.{later_is}
use Rattle.tree_scan_sites.proofs.MemberLaws.{In, Contains-from_in, in_from_Contains, Each, of_each, Rises}
use Rattle.tree_scan_sites.proofs.MemberLaws.{rises_weaker, rises_from_AllPairs, rises_drop}
use Rattle.tree_scan_sites.proofs.ReachLaws.{NotBehind}

-- ---- spellings in order
-- the order of spellings is total, so that they can be sorted
pub spelled_total : IsTotalOrder spelled_order
spelled_total = then_total (on_total (λ s. s.constant) path_order_total)
    (then_total (on_total (λ s. s.root) nat_cmp_total) (on_total (λ s. s.file) nat_cmp_total))

-- spellings are ordered by their order
pub spelled_ranks : IsStrictWeakOrder (λ (s : Spelled) (t : Spelled). is_lt (spelled_order s t))
spelled_ranks = ranks_by spelled_total (λ s. s)

-- the second doesn't come before the first
abbrev pub NotAfter : Spelled → Spelled → Type 0
NotAfter s t = is_lt (spelled_order t s) ≡ false

-- of sorted spellings no later one comes before an earlier one
pub in_order : (spelled : List Spelled) → IsSorted spelled_order spelled → (i j : ℕ) (d : Spelled) → i ≤ j →
    j < length spelled → NotAfter (get_or spelled i d) (get_or spelled j d)
in_order spelled h = sorted_far (λ s t. is_lt (spelled_order s t)) spelled_ranks spelled h

-- sorted spellings rise
pub in_order_rise : (spelled : List Spelled) → IsSorted spelled_order spelled → Rises NotAfter spelled
in_order_rise spelled h = rises_from_AllPairs NotAfter spelled (λ i j d a b. in_order spelled h i j d (omega arith) b)

-- a spelling that is not after another has no later constant
pub not_behind : (s t : Spelled) → NotAfter s t → NotBehind s t
not_behind s t h =
    elim (path_order t.constant s.constant) as (λ o. path_order s.constant t.constant ≡ ordering_reverse o →
    is_lt (ordering_then o (ordering_then (nat_cmp t.root s.root) (nat_cmp t.file s.file))) ≡ false →
    is_gt (path_order s.constant t.constant) ≡ false) [
      | Less ↦ λ e g. absurd (false≢true (sym g))
      | Equal ↦ λ e g. ap is_gt e
      | Greater ↦ λ e g. ap is_gt e
    ] (path_order_total.antisymm s.constant t.constant) h

-- the constants of rising spellings rise
pub constants_rise : (spelled : List Spelled) → Rises NotAfter spelled → Rises NotBehind spelled
constants_rise spelled h = rises_weaker NotAfter NotBehind not_behind spelled h

-- ---- of two spellings of one constant the first has the first root and file
not_lower : (x y : ℕ) → is_lt (nat_cmp x y) ≡ false → y ≤ x
not_lower x y h = by_ranked (x < y) (x ≡ y) (y < x) (nat_cmp x y) (ranked x y (nat_cmp x y) refl)
    (λ e lt. absurd (false≢true (sym h ∙ ap is_lt e)))
    (λ e same. omega (arith, same))
    (λ e gt. omega (arith, gt))

ranked_later : (a b x y : ℕ) → is_lt (ordering_then (nat_cmp a b) (nat_cmp x y)) ≡ false → NoLater b y a x
ranked_later a b x y h = by_ranked (a < b) (a ≡ b) (b < a) (nat_cmp a b) (ranked a b (nat_cmp a b) refl)
    (λ e lt. absurd (false≢true (sym h ∙ ap (λ o. is_lt (ordering_then o (nat_cmp x y))) e)))
    (λ e same. inr (sym same, not_lower x y (sym (ap (λ o. is_lt (ordering_then o (nat_cmp x y))) e) ∙ h)))
    (λ e gt. inl gt)

no_later : (s t : Spelled) → s.constant ≡ t.constant → NotAfter s t → NoLater s.root s.file t.root t.file
no_later s t same h =
    let level : path_order t.constant s.constant ≡ Equal = ap (path_order t.constant) same ∙ order_itself t.constant in
    ranked_later t.root s.root t.file s.file
    (sym (ap (λ o. is_lt (ordering_then o (ordering_then (nat_cmp t.root s.root) (nat_cmp t.file s.file))))
    level) ∙ h)

-- ---- the first file
-- that a file spells a constant below a root, as it is listed
abbrev pub spelling : List (List ℕ) → ℕ → ℕ → Spelled
spelling c root file = record { constant = c; root = root; file = file }

other_constant : (s : Spelled) (c : List (List ℕ)) → (path_order s.constant c ≡ Equal → ⊥) → s.constant ≡ c → ⊥
other_constant s c ne e = ne (ap (λ p. path_order p c) e ∙ order_itself c)

-- the file, with its root, and that no spelling of the constant comes earlier
pub record IsFirst (c : List (List ℕ)) (spelled : List Spelled) (file : ℕ) : Type 0 where
  pub root : ℕ
  pub listed : In (spelling c root file) spelled
  pub first : (t : Spelled) → In t spelled → t.constant ≡ c → NoLater root file t.root t.file

first_here : (c : List (List ℕ)) (s : Spelled) (spelled : List Spelled) (file : ℕ) → Each (NotAfter s) spelled →
    s.constant ≡ c → s.file ≡ file → IsFirst c (s ∷ spelled) file
first_here c s spelled file after same is = record {
  root = s.root;
  listed = inl (λ i. record { constant = same i; root = s.root; file = is i });
  first = λ t h e. elim h [
    | inl one ↦ subst (λ (u : Spelled). NoLater s.root file u.root u.file) one (inr (refl, omega (arith, is)))
    | inr k ↦ subst (λ (f : ℕ). NoLater s.root f t.root t.file) is
        (no_later s t (same ∙ sym e) (of_each (NotAfter s) spelled t after k))
  ];
}

first_later : (c : List (List ℕ)) (s : Spelled) (spelled : List Spelled) (file : ℕ) → (s.constant ≡ c → ⊥) →
    IsFirst c spelled file → IsFirst c (s ∷ spelled) file
first_later c s spelled file other f = record {
  root = f.root;
  listed = inr f.listed;
  first = λ t h e. elim h [ inl one ↦ absurd (other (ap (λ u. u.constant) one ∙ e)) | inr k ↦ f.first t k e ];
}

-- the first file that is found has its root and no earlier spelling
pub first_is : (c : List (List ℕ)) (spelled : List Spelled) → Rises NotAfter spelled → (file : ℕ) →
    first_file c spelled ≡ Some file → IsFirst c spelled file
first_is c [] rise file e = cc
first_is c (s ∷ spelled) rise file e =
    elim (path_order s.constant c) as (λ o. path_order s.constant c ≡ o →
    cond (is_eq o) (Some s.file) (first_file c spelled) ≡ Some file → IsFirst c (s ∷ spelled) file) [
      | Less ↦ λ o k. first_later c s spelled file (other_constant s c (λ z. let w : Less ≡ Equal = sym o ∙ z in cc))
          (first_is c spelled rise.1 file k)
      | Equal ↦ λ o k. first_here c s spelled file rise.0 (exact_paths s.constant c o) (cc)
      | Greater ↦ λ o k. first_later c s spelled file
          (other_constant s c (λ z. let w : Greater ≡ Equal = sym o ∙ z in cc)) (first_is c spelled rise.1 file k)
    ] refl e

none_of : (o : Ordering) (file : ℕ) (rest : Option ℕ) → cond (is_eq o) (Some file) rest ≡ None → (o ≡ Equal → ⊥)
    × (rest ≡ None)
none_of Less file rest h = (λ z. cc, h)
none_of Equal file rest h = cc
none_of Greater file rest h = (λ z. cc, h)

-- where no first file is found, nothing spells the constant
pub first_none : (c : List (List ℕ)) (spelled : List Spelled) → first_file c spelled ≡ None → (t : Spelled) →
    In t spelled → t.constant ≡ c → ⊥
first_none c [] e t h same = h
first_none c (s ∷ spelled) e t h same =
    let both = none_of (path_order s.constant c) s.file (first_file c spelled) e in
    elim h [
      | inl one ↦ other_constant s c both.0 (ap (λ u. u.constant) one ∙ same)
      | inr k ↦ first_none c spelled both.1 t k same
    ]

-- ---- the file of a constant
-- two files of one constant are the same, since neither comes after the other
pub one_file : (P : List (List ℕ) → ℕ → ℕ → Type 0) (c : List (List ℕ)) (f g : ℕ) → IsFileOf P c f → IsFileOf P c g →
    f ≡ g
one_file P c f g h k = same_file h.0 k.0 f g (h.2 k.0 g k.1) (k.2 h.0 f h.1)
  where
    same_file : (r s x y : ℕ) → NoLater r x s y → NoLater s y r x → x ≡ y
    same_file r s x y a b = elim a [
      | inl lt ↦ elim b [ inl gt ↦ absurd (omega (arith, lt, gt)) | inr e ↦ absurd (omega (arith, lt, e.0)) ]
      | inr e ↦ elim b [ inl gt ↦ absurd (omega (arith, e.0, gt)) | inr d ↦ omega (arith, e.1, d.1) ]
    ]

-- the first file that is found is the file of the constant
pub file_from_first : (spelled : List Spelled) → Rises NotAfter spelled → (c : List (List ℕ)) (file : ℕ) →
    first_file c spelled ≡ Some file → IsFileOf (Lists spelled) c file
file_from_first spelled rise c file e =
    let f = first_is c spelled rise file e in (
      f.root,
      Contains-from_in (spelling c f.root file) spelled f.listed,
      λ root other h.
          f.first (spelling c root other) (in_from_Contains (spelling c root other) spelled h) refl,
    )

-- where no first file is found, no root and no file spells the constant
pub none_from_first : (spelled : List Spelled) (c : List (List ℕ)) → first_file c spelled ≡ None → (root file : ℕ) →
    Lists spelled c root file → ⊥
none_from_first spelled c e root file h = first_none c spelled e (spelling c root file)
    (in_from_Contains (spelling c root file) spelled h) refl

-- the file of a constant is found first
pub first_from_file : (spelled : List Spelled) → Rises NotAfter spelled → (c : List (List ℕ)) (file : ℕ) →
    IsFileOf (Lists spelled) c file → first_file c spelled ≡ Some file
first_from_file spelled rise c file h =
    elim (first_file c spelled) as (λ o. first_file c spelled ≡ o → o ≡ Some file) [
      | None ↦ λ e. absurd (none_from_first spelled c e h.0 file h.1)
      | Some other ↦ λ e. ap Some (one_file (Lists spelled) c other file (file_from_first spelled rise c other e) h)
    ] refl

-- ---- the search for it
lt_is : (o : Ordering) → is_lt o ≡ true → o ≡ Less
lt_is Less h = refl
lt_is Equal h = cc
lt_is Greater h = cc

-- sorted spellings are parted by whether their constants come before a path
pub parted : (c : List (List ℕ)) (spelled : List Spelled) → IsSorted spelled_order spelled →
    IsPartitionedBy (comes_before c) spelled
parted c spelled h i j d le lt before =
    ap is_lt (upto_before (get_or spelled i d).constant (get_or spelled j d).constant c
    (not_behind (get_or spelled i d) (get_or spelled j d) (in_order spelled h i j d le lt))
    (lt_is (path_order (get_or spelled j d).constant c) before))

before_not : (o : Ordering) → is_lt o ≡ true → is_eq o ≡ false
before_not Less h = refl
before_not Equal h = absurd (false≢true h)
before_not Greater h = refl

skipped : (c : List (List ℕ)) (spelled : List Spelled) (i : ℕ) →
    AllWithin (λ s. comes_before c s ≡ true) spelled 0 i → first_file c spelled ≡ first_file c (drop i spelled)
skipped c spelled zero h = refl
skipped c [] (suc i) h = refl
skipped c (s ∷ spelled) (suc i) h =
    ap (λ v. cond v (Some s.file) (first_file c spelled))
    (before_not (path_order s.constant c) (h 0 s (omega arith) (omega arith)))
    ∙ skipped c spelled i (λ k d a b. h (suc k) d (omega arith) (omega arith))

before_upto : (a b c : List (List ℕ)) → path_order a b ≡ Less → is_gt (path_order b c) ≡ false → path_order a c ≡ Less
before_upto a b c h k =
    elim (path_order b c) as (λ o. path_order b c ≡ o → is_gt o ≡ false → path_order a c ≡ Less) [
      | Less ↦ λ e g. path_order_total.trans a b c h e
      | Equal ↦ λ e g. subst (λ (p : List (List ℕ)). path_order a p ≡ Less) (exact_paths b c e) h
      | Greater ↦ λ e g. cc
    ] refl k

none_behind : (c : List (List ℕ)) (s : Spelled) (spelled : List Spelled) → path_order s.constant c ≡ Greater →
    Each (NotAfter s) spelled → first_file c spelled ≡ None
none_behind c s [] g h = refl
none_behind c s (t ∷ spelled) g h =
    let far : path_order c t.constant ≡ Less = before_upto c s.constant t.constant (earlier_is s.constant c g)
    (not_behind s t h.0) in
    ap (λ o. cond (is_eq o) (Some t.file) (first_file c spelled)) (later_is c t.constant far)
    ∙ none_behind c s spelled g h.1

-- where all constants come before a path, none spells it
pub first_past : (c : List (List ℕ)) (spelled : List Spelled) (place : ℕ) →
    AllWithin (λ s. comes_before c s ≡ true) spelled 0 place → place ≡ length spelled → first_file c spelled ≡ None
first_past c spelled place front e = skipped c spelled place front
    ∙ ap (first_file c) (drop_all place spelled (omega (arith, e)))

module _ (c : List (List ℕ)) (spelled : List Spelled) (place : ℕ) (s : Spelled) (lt : place < length spelled)
    (is : s ≡ get_or spelled place s) where
  rest_at : drop place spelled ≡ s ∷ drop (place + 1) spelled
  rest_at = drop_more spelled place s lt ∙ ap (λ t. t ∷ drop (place + 1) spelled) (sym is)

  first_step : AllWithin (λ t. comes_before c t ≡ true) spelled 0 place →
      first_file c spelled ≡ cond (is_eq (path_order s.constant c)) (Some s.file)
      (first_file c (drop (place + 1) spelled))
  first_step front = skipped c spelled place front ∙ ap (first_file c) rest_at

  -- where all before a place come before a path and a spelling of the path stands there, its file is the first
  pub first_found : AllWithin (λ t. comes_before c t ≡ true) spelled 0 place → path_order s.constant c ≡ Equal →
      first_file c spelled ≡ Some s.file
  first_found front e = first_step front
      ∙ ap (λ o. cond (is_eq o) (Some s.file) (first_file c (drop (place + 1) spelled))) e

  -- where all before a place come before a path and what stands there comes after it, no file spells the path
  pub first_missing : IsSorted spelled_order spelled → AllWithin (λ t. comes_before c t ≡ true) spelled 0 place →
      path_order s.constant c ≡ Greater → first_file c spelled ≡ None
  first_missing sorted front g =
      let rise : Rises NotAfter (s ∷ drop (place + 1) spelled) =
      subst (Rises NotAfter) rest_at (rises_drop NotAfter place spelled (in_order_rise spelled sorted)) in
      first_step front
      ∙ (ap (λ o. cond (is_eq o) (Some s.file) (first_file c (drop (place + 1) spelled))) g
      ∙ none_behind c s (drop (place + 1) spelled) g rise.0)

  -- what stands at a place from which on nothing comes before a path doesn't come before it
  pub first_not_before : AllWithin (λ t. comes_before c t ≡ false) spelled place (length spelled) →
      path_order s.constant c ≡ Less → ⊥
  first_not_before back e =
      let at : comes_before c (get_or spelled place s) ≡ false = back place s (omega arith) lt in
      let here : comes_before c s ≡ false = ap (comes_before c) is ∙ at in
      false≢true (sym here ∙ ap is_lt e)

  -- where a path is parted at a place and what stands there is no spelling of it, no file spells the path
  pub first_other : IsSorted spelled_order spelled → AllWithin (λ t. comes_before c t ≡ true) spelled 0 place →
      AllWithin (λ t. comes_before c t ≡ false) spelled place (length spelled) →
      is_eq (path_order s.constant c) ≡ false → first_file c spelled ≡ None
  first_other sorted front back ne =
      elim (path_order s.constant c) as (λ o. path_order s.constant c ≡ o → is_eq o ≡ false →
      first_file c spelled ≡ None) [
        | Less ↦ λ e h. absurd (first_not_before back e)
        | Equal ↦ λ e h. absurd (false≢true (sym h))
        | Greater ↦ λ e h. first_missing sorted front e
      ] refl ne

eq_is : (o : Ordering) → is_eq o ≡ true → o ≡ Equal
eq_is Less h = cc
eq_is Equal h = refl
eq_is Greater h = cc

-- a spelling whose constant is tied with the path
pub is_first : (c : List (List ℕ)) (s : Spelled) → is_eq (path_order s.constant c) ≡ true →
    path_order s.constant c ≡ Equal
is_first c s h = eq_is (path_order s.constant c) h

-- what holds of a success
pub on_ok : {T E : Type 0} {P Q : Type 0} (r : Result T E) → (P → Q) → OnOk r P → OnOk r Q
on_ok (Ok x) f h = f h
on_ok (Err e) f h = h
