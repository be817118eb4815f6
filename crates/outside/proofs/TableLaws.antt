-- Files in the order of their paths: places, and that they keep their order.
use Rattle.std.proofs.Common.{◌≡◌, ℕ, zero, suc, ◌<◌, ◌≤◌, ◌+◌, Bool, true, false, List, [], ◌∷◌, ◌++◌, length, get_or}
use Rattle.std.proofs.Common.{take, drop, set, filter, HoldsAt, AllPairs, All, refl, ap, sym, ◌∙◌, arith, add-one, inl}
use Rattle.std.proofs.Common.{inr, ◌⊎◌}
use Rattle.std.specs.Ordering.{ordering_reverse, ordering_index, is_lt, is_gt}
use Rattle.std.specs.List.{AllWithin, insert, remove}
use Rattle.std.specs.List.Sorted.{IsNonDecreasingBy, IsPartitionPoint}
use Rattle.std.specs.declared.cmp.Ordering.{Ordering}
use Rattle.std.specs.declared.cmp.Ordering.TheVariants.{Less, Equal, Greater}
use Rattle.std.proofs.lemmas.Cmp.{nat_list_cmp_total}
use Rattle.std.proofs.lemmas.Map.Lookups.{exact_bytes}
use Rattle.std.proofs.lemmas.List.{get_or-map, length-map, set_split, take-append-drop}
use Rattle.std.proofs.lemmas.List.Elements.{All-cons, All-append, All-head, All-weaker, filter_passes}
use Rattle.std.proofs.lemmas.List.Kept.{AllPairs-cons, AllPairs-filter}
use Rattle.outside.specs.Order.{order, IsBefore, Rising}
use Rattle.outside.specs.Tree.{paths_of}
use Rattle.outside.specs.Table.{files_before, files_after, with_file, without_file, HasPath, IsPlace}
use Rattle.outside.specs.declared.files.FileEntry.{FileEntry}

-- ---- the order of paths
-- a text that comes after another one has it before itself
pub after_is : (a b : List ℕ) → order a b ≡ Greater → order b a ≡ Less
after_is a b h = let e = nat_list_cmp_total.antisymm b a in e ∙ ap ordering_reverse h

-- what comes after, said from the other side
pub before_is : (a b : List ℕ) → order b a ≡ Less → order a b ≡ Greater
before_is a b h = let e = nat_list_cmp_total.antisymm a b in e ∙ ap ordering_reverse h

-- no text comes before itself
pub not_before_itself : (a : List ℕ) → order a a ≡ Less → ⊥
not_before_itself a h = let z : Less ≡ Greater = sym h ∙ before_is a a h in cc

-- what is at most a number is below it or is it
pub le_cases : (n m : ℕ) → n ≤ m → (n < m) ⊎ (n ≡ m)
le_cases zero zero h = inr refl
le_cases zero (suc m) h = inl (omega arith)
le_cases (suc n) zero h = absurd (omega arith)
le_cases (suc n) (suc m) h = elim (le_cases n m (omega arith)) [ inl a ↦ inl (omega arith) | inr e ↦ inr (ap suc e) ]

index_at_most : (o : Ordering) → ordering_index o ≤ 2
index_at_most Less = omega arith
index_at_most Equal = omega arith
index_at_most Greater = omega arith

-- ---- what passes at the front alone, or at the back alone
-- where a test passes up to a place and not from there on, the members up to the place pass
pub filter_front : {X : Type 0} (p : X → Bool) (xs : List X) (i : ℕ) → AllWithin (λ x. p x ≡ true) xs 0 i →
    AllWithin (λ x. p x ≡ false) xs i (length xs) → filter p xs ≡ take i xs
filter_front p [] zero front back = refl
filter_front p [] (suc i) front back = refl
filter_front p (x ∷ xs) zero front back =
    rw (back 0 x (omega arith) (omega arith))
    (filter_front p xs zero (λ k d a b. absurd (omega arith))
    (λ k d a b. back (suc k) d (omega arith) (omega arith)))
filter_front p (x ∷ xs) (suc i) front back =
    rw (front 0 x (omega arith) (omega arith))
    (ap (λ ys. x ∷ ys) (filter_front p xs i (λ k d a b. front (suc k) d (omega arith) (omega arith))
    (λ k d a b. back (suc k) d (omega arith) (omega arith))))

-- and at the back alone
pub filter_back : {X : Type 0} (p : X → Bool) (xs : List X) (i : ℕ) → AllWithin (λ x. p x ≡ false) xs 0 i →
    AllWithin (λ x. p x ≡ true) xs i (length xs) → filter p xs ≡ drop i xs
filter_back p [] zero front back = refl
filter_back p [] (suc i) front back = refl
filter_back p (x ∷ xs) zero front back =
    rw (back 0 x (omega arith) (omega arith))
    (ap (λ ys. x ∷ ys) (filter_back p xs zero (λ k d a b. absurd (omega arith))
    (λ k d a b. back (suc k) d (omega arith) (omega arith))))
filter_back p (x ∷ xs) (suc i) front back =
    rw (front 0 x (omega arith) (omega arith))
    (filter_back p xs i (λ k d a b. front (suc k) d (omega arith) (omega arith))
    (λ k d a b. back (suc k) d (omega arith) (omega arith)))

-- ---- files that rise
abbrev Follows : FileEntry → FileEntry → Type 0
Follows f g = IsBefore f.path g.path

-- a file of this path, to read past a list's end
abbrev some_file : List ℕ → FileEntry
some_file path = record { path = path; bytes = []; stamp = record { length = 0; time = 0 } }

path_at : (files : List FileEntry) (i : ℕ) (path : List ℕ) → i < length files →
    get_or (paths_of files) i path ≡ (get_or files i (some_file path)).path
path_at files i path lt = get_or-map (λ f. f.path) files i (some_file path) path lt

-- paths that rise are files that follow one another
pub files_rise : (files : List FileEntry) → Rising (paths_of files) → AllPairs Follows files
files_rise files rise i j d lt within =
    let h : IsBefore (get_or (paths_of files) i d.path) (get_or (paths_of files) j d.path) =
    rise i j d.path lt (simp length-map (omega arith)) in
    rw (get_or-map (λ f. f.path) files i d d.path (omega arith), get_or-map (λ f. f.path) files j d d.path within) at h

-- files that follow one another have paths that rise
pub paths_rise : (files : List FileEntry) → AllPairs Follows files → Rising (paths_of files)
paths_rise files rise i j d lt within =
    let in' : j < length files = simp length-map at within in
    rw (path_at files i d (omega arith), path_at files j d in') (rise i j (some_file d) lt in')

module _ (files : List FileEntry) (path : List ℕ) (rise : Rising (paths_of files)) where
  -- the answers of a comparison with the path rise along the files
  steps : (a b : List ℕ) (o u : Ordering) → o ≡ order a path → u ≡ order b path → order a b ≡ Less →
      ordering_index o ≤ ordering_index u
  steps a b o Less e f h = let l : o ≡ Less = e ∙ nat_list_cmp_total.trans a b path h (sym f) in rw l (omega arith)
  steps a b o Equal e f h = let same : b ≡ path = exact_bytes b path (sym f) in let l : o ≡ Less = e
      ∙ (rw same at h) in rw l (omega arith)
  steps a b o Greater e f h = index_at_most o

  -- so a binary search for the path finds its place
  pub answers_rise : IsNonDecreasingBy (λ f. ordering_index (order f.path path)) files
  answers_rise i j d le within = elim (le_cases i j le) [
    | inl lt ↦ steps (get_or files i d).path (get_or files j d).path _ _ refl refl
        (files_rise files rise i j d lt within)
    | inr e ↦ rw e (omega arith)
  ]

  module _ (i : ℕ) (within : i < length files) (is : HoldsAt (λ f. order f.path path ≡ Equal) files i) where
    at_place : (d : FileEntry) → (get_or files i d).path ≡ path
    at_place d = exact_bytes _ path (is d)

    below : (k : ℕ) (d : FileEntry) → k < i → order (get_or files k d).path path ≡ Less
    below k d lt = let h = files_rise files rise k i d lt within in rw (at_place d) at h

    above : (k : ℕ) (d : FileEntry) → i < k → k < length files → order (get_or files k d).path path ≡ Greater
    above k d lt in' = let h = files_rise files rise i k d lt in' in
        before_is (get_or files k d).path path (rw (at_place d) at h)

    from_place : (k : ℕ) (d : FileEntry) → i ≤ k → k < length files → is_lt (order (get_or files k d).path path) ≡ false
    from_place k d le in' = elim (le_cases i k le) [
      | inl lt ↦ ap is_lt (above k d lt in')
      | inr e ↦ rw (← e) (ap is_lt (is d))
    ]

    to_place : (k : ℕ) (d : FileEntry) → k ≤ i → is_gt (order (get_or files k d).path path) ≡ false
    to_place k d le = elim (le_cases k i le) [
      | inl lt ↦ ap is_gt (below k d lt)
      | inr e ↦ rw e (ap is_gt (is d))
    ]

    -- a file with the path is at the place that was found
    pub found_path : HasPath files path
    found_path = (i, simp length-map within, path_at files i path within ∙ at_place (some_file path))

    -- what is found is the place of the file with the path
    pub found_place : IsPlace files path i (i + 1)
    found_place = record {
      within = omega arith;
      before = filter_front (λ f. is_lt (order f.path path)) files i (λ k d a b. ap is_lt (below k d b))
          (λ k d a b. from_place k d a b);
      after = filter_back (λ f. is_gt (order f.path path)) files (i + 1) (λ k d a b. to_place k d (omega arith))
          (λ k d a b. ap is_gt (above k d (omega arith) b));
    }

  module _ (i : ℕ) (within : i ≤ length files)
      (is : IsPartitionPoint (λ f. order f.path path ≡ Less) (λ f. order f.path path ≡ Greater) files i) where
    lt_or : (k n : ℕ) → (k < n) ⊎ (n ≤ k)
    lt_or k zero = inr (omega arith)
    lt_or zero (suc n) = inl (omega arith)
    lt_or (suc k) (suc n) = elim (lt_or k n) [ inl a ↦ inl (omega arith) | inr a ↦ inr (omega arith) ]

    -- no file has a path that was not found
    pub no_path : HasPath files path → ⊥
    no_path has =
        let lt : has.0 < length files = simp length-map at has.1 in
        let e : (get_or files has.0 (some_file path)).path ≡ path = sym (path_at files has.0 path lt) ∙ has.2 in
        elim (lt_or has.0 i) [
          | inl a ↦ let h = is.0 has.0 (some_file path) (omega arith) a in not_before_itself path (rw e at h)
          | inr a ↦ let h = is.1 has.0 (some_file path) a lt in let g : order path path ≡ Greater = rw e at h in
              not_before_itself path (after_is path path g)
        ]

    -- what is found then is where a file with the path would stand
    pub missing_place : IsPlace files path i i
    missing_place = record {
      within = within;
      before = filter_front (λ f. is_lt (order f.path path)) files i (λ k d a b. ap is_lt (is.0 k d a b))
          (λ k d a b. ap is_lt (is.1 k d a b));
      after = filter_back (λ f. is_gt (order f.path path)) files i (λ k d a b. ap is_gt (is.0 k d a b))
          (λ k d a b. ap is_gt (is.1 k d a b));
    }

-- ---- the order is kept
AllPairs-append : {X : Type 0} (R : X → X → Type 0) (xs ys : List X) → AllPairs R xs → AllPairs R ys →
    All (λ x. All (R x) ys) xs → AllPairs R (xs ++ ys)
AllPairs-append R [] ys front back across = back
AllPairs-append R (x ∷ xs) ys front back across =
    AllPairs-cons R x (xs ++ ys)
    (All-append (R x) xs ys (λ k d lt. front 0 (suc k) d (omega arith) (omega arith))
    (All-head (λ z. All (R z) ys) x xs across))
    (AllPairs-append R xs ys (λ i j d a b. front (suc i) (suc j) d (omega arith) (omega arith)) back
    (λ k d lt. across (suc k) d (omega arith)))

lt_is : (o : Ordering) → is_lt o ≡ true → o ≡ Less
lt_is Less h = refl
lt_is Equal h = cc
lt_is Greater h = cc

gt_is : (o : Ordering) → is_gt o ≡ true → o ≡ Greater
gt_is Less h = cc
gt_is Equal h = cc
gt_is Greater h = refl

module _ (files : List FileEntry) (path : List ℕ) where
  -- files before a path come before it
  pub all_before : All (λ f. IsBefore f.path path) (files_before path files)
  all_before = All-weaker (λ f. is_lt (order f.path path) ≡ true) (λ f. IsBefore f.path path)
      (λ f h. lt_is (order f.path path) h) (files_before path files)
      (filter_passes (λ f. is_lt (order f.path path)) files)

  -- files after a path come after it
  pub all_after : All (λ f. IsBefore path f.path) (files_after path files)
  all_after = All-weaker (λ f. is_gt (order f.path path) ≡ true) (λ f. IsBefore path f.path)
      (λ f h. after_is f.path path (gt_is (order f.path path) h)) (files_after path files)
      (filter_passes (λ f. is_gt (order f.path path)) files)

  across_path : All (λ f. All (Follows f) (files_after path files)) (files_before path files)
  across_path = All-weaker (λ f. IsBefore f.path path) (λ f. All (Follows f) (files_after path files))
      (λ f h. All-weaker (λ g. IsBefore path g.path) (Follows f)
      (λ g l. nat_list_cmp_total.trans f.path path g.path h l) (files_after path files) all_after)
      (files_before path files) all_before

  -- files stay in order where one is taken out
  pub without_rises : Rising (paths_of files) → Rising (paths_of (without_file path files))
  without_rises rise = paths_rise (without_file path files)
      (AllPairs-append Follows (files_before path files) (files_after path files)
      (AllPairs-filter Follows (λ f. is_lt (order f.path path)) files (files_rise files rise))
      (AllPairs-filter Follows (λ f. is_gt (order f.path path)) files (files_rise files rise))
      across_path)

-- files stay in order where one is put in its place
pub with_rises : (files : List FileEntry) (file : FileEntry) → Rising (paths_of files) →
    Rising (paths_of (with_file file files))
with_rises files file rise = paths_rise (with_file file files)
    (AllPairs-append Follows (files_before file.path files) (file ∷ files_after file.path files)
    (AllPairs-filter Follows (λ f. is_lt (order f.path file.path)) files (files_rise files rise))
    (AllPairs-cons Follows file (files_after file.path files) (all_after files file.path)
    (AllPairs-filter Follows (λ f. is_gt (order f.path file.path)) files (files_rise files rise)))
    (λ k d lt. All-cons (Follows (get_or (files_before file.path files) k d)) file (files_after file.path files)
    (all_before files file.path k d lt) (across_path files file.path k d lt)))

-- ---- what a write at a place makes
-- a file written over the one of its path is in its place among the files
pub set_at_place : (files : List FileEntry) (file : FileEntry) (i : ℕ) → IsPlace files file.path i (i + 1) →
    set files i file ≡ with_file file files
set_at_place files file i place =
    let after : files_after file.path files ≡ drop (suc i) files = rw add-one at place.after in
    rw (place.before, after) (set_split files i file (let h = place.within in omega arith))

-- a new file at its place
pub insert_at_place : (files : List FileEntry) (file : FileEntry) (i : ℕ) → IsPlace files file.path i i →
    insert files i file ≡ with_file file files
insert_at_place files file i place = rw (place.before, place.after) refl

-- a file taken out of its place
pub remove_at_place : (files : List FileEntry) (path : List ℕ) (i : ℕ) → IsPlace files path i (i + 1) →
    remove files i ≡ without_file path files
remove_at_place files path i place =
    let after : files_after path files ≡ drop (suc i) files = rw add-one at place.after in
    rw (place.before, after) refl

-- nothing is taken out where there is no such file
pub none_at_place : (files : List FileEntry) (path : List ℕ) (i : ℕ) → IsPlace files path i i →
    files ≡ without_file path files
none_at_place files path i place = rw (place.before, place.after) (sym (take-append-drop i files))
