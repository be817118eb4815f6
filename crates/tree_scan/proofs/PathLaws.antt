-- The paths of files that are told by their numbers.
use Rattle.std.proofs.Common.{◌≡◌, ℕ, zero, suc, ◌<◌, List, [], ◌∷◌, length, map, get_or, Some}
use Rattle.std.proofs.Common.{slice_get, Result, Ok, Err, IfOk, Contains, All, refl, sym, ap, ◌∙◌, subst}
use Rattle.std.proofs.Common.{arith}
use Rattle.std.specs.List.Sorted.{IsStrictlyIncreasing}
use Rattle.std.proofs.lemmas.List.{length-map}
use Rattle.std.proofs.lemmas.List.Elements.{All-contains}
use Rattle.std.proofs.lemmas.List.Kept.{AllPairs-from_increasing}
use Rattle.outside.specs.Order.{Rising, IsBefore}
use Rattle.outside.specs.Tree.{paths_of}
use Rattle.outside.specs.declared.files.FileEntry.{FileEntry}
use Rattle.tree_scan_sites.proofs.MemberLaws.{in_from_Contains, Contains-from_in, in_mapped, mapped_in}
use Rattle.tree_scan.specs.Sites.{HasPath, ArePathsOf, path_in, path_at}

entry_at : (files : List FileEntry) (n : ℕ) → n < length files → (entry : FileEntry) × (slice_get files n ≡ Some entry)
entry_at [] n lt = absurd (omega (arith, lt))
entry_at (f ∷ fs) zero lt = (f, refl)
entry_at (f ∷ fs) (suc n) lt = entry_at fs n (omega (arith, lt))

has_path : (files : List FileEntry) (n : ℕ) → n < length files → HasPath files n (path_at files n)
has_path files n lt = let r = entry_at files n lt in (r.0, r.1, sym (ap path_in r.1))

path_is : (files : List FileEntry) (n : ℕ) (path : List ℕ) → HasPath files n path → path_at files n ≡ path
path_is files n path h = ap path_in h.1 ∙ h.2

-- the image at a place is that of the member there
pub at_map : {X Y : Type 0} (f : X → Y) (xs : List X) (i : ℕ) (d : Y) (e : X) → i < length xs →
    get_or (map f xs) i d ≡ f (get_or xs i e)
at_map f [] i d e lt = absurd (omega (arith, lt))
at_map f (x ∷ xs) zero d e lt = refl
at_map f (x ∷ xs) (suc i) d e lt = at_map f xs i d e (omega (arith, lt))

-- the path at a place is that of the file there
pub at_path : (files : List FileEntry) (n : ℕ) (d : List ℕ) → n < length files →
    get_or (paths_of files) n d ≡ path_at files n
at_path [] n d lt = absurd (omega (arith, lt))
at_path (f ∷ fs) zero d lt = refl
at_path (f ∷ fs) (suc n) d lt = at_path fs n d (omega (arith, lt))

-- two files in order have paths in order
before : (files : List FileEntry) (m n : ℕ) → Rising (paths_of files) → m < n → n < length files →
    IsBefore (path_at files m) (path_at files n)
before files m n rises lt within =
    subst (λ p. IsBefore p (path_at files n)) (at_path files m [] (omega (arith, lt, within)))
    (subst (λ q. IsBefore (get_or (paths_of files) m []) q) (at_path files n [] within)
    (rises m n [] lt (rw (length-map files (λ f. f.path)) within)))

module _ (files : List FileEntry) (numbers : List ℕ) (within : All (λ n. n < length files) numbers) where
  in_files : (n : ℕ) → Contains numbers n → n < length files
  in_files n h = All-contains (λ n. n < length files) numbers n within h

  found : (path : List ℕ) → Contains (map (path_at files) numbers) path → (n : ℕ) × HasPath files n path
      × Contains numbers n
  found path h =
      let r = mapped_in (path_at files) path numbers (in_from_Contains path (map (path_at files) numbers) h) in
      let c : Contains numbers r.0 = Contains-from_in r.0 numbers r.2 in
      (r.0, subst (λ p. HasPath files r.0 p) r.1 (has_path files r.0 (in_files r.0 c)), c)

  kept : (path : List ℕ) → (n : ℕ) × HasPath files n path × Contains numbers n →
      Contains (map (path_at files) numbers) path
  kept path h =
      subst (λ p. Contains (map (path_at files) numbers) p) (path_is files h.0 path h.1)
      (Contains-from_in (path_at files h.0) (map (path_at files) numbers)
      (in_mapped (path_at files) h.0 numbers (in_from_Contains h.0 numbers h.2)))

-- the paths of rising numbers of files rise, and are those of these files
pub are_paths : (files : List FileEntry) (numbers : List ℕ) → All (λ n. n < length files) numbers →
    Rising (paths_of files) → IsStrictlyIncreasing numbers →
    ArePathsOf files (Contains numbers) (map (path_at files) numbers)
are_paths files numbers within rises up = record {
  exact = λ path. (found files numbers within path, kept files numbers within path);
  rising = λ i j d lt short.
      let shorter : j < length numbers = rw (sym (length-map numbers (path_at files))) short in
      rw (
        at_map (path_at files) numbers i d 0 (omega (arith, lt, shorter)),
        at_map (path_at files) numbers j d 0 shorter,
      )
      (before files (get_or numbers i 0) (get_or numbers j 0) rises
      (AllPairs-from_increasing numbers up i j 0 lt shorter) (within j 0 shorter));
}

-- the same of the paths that a call found, unless memory ran out
pub told_paths : {E : Type 0} (files : List FileEntry) (numbers : List ℕ) (result : Result (List (List ℕ)) E) →
    All (λ n. n < length files) numbers → Rising (paths_of files) → IsStrictlyIncreasing numbers →
    IfOk result (λ paths. paths ≡ map (path_at files) numbers) → IfOk result (ArePathsOf files (Contains numbers))
told_paths files numbers (Ok paths) within rises up e = subst (λ p. ArePathsOf files (Contains numbers) p) (sym e)
    (are_paths files numbers within rises up)
told_paths files numbers (Err x) within rises up e = tt
