-- Files that a tree in memory holds and gave, by the numbers of their writes.
use Rattle.std.proofs.Common.{◌≡◌, ℕ, ◌<◌, ◌≤◌, ◌+◌, Bool, true, false, List, [], ◌∷◌, ◌++◌, Some, None, cond, map}
use Rattle.std.proofs.Common.{length, get_or, take, All, Contains, refl, ap, sym, ◌∙◌, subst, arith, inl, inr, ◌⊎◌}
use Rattle.std.specs.Option.{IsSomeAnd}
use Rattle.std.proofs.lemmas.List.{get_or-map, length-map, map-append, take_more}
use Rattle.std.proofs.lemmas.List.Elements.{All-cons, All-head, All-tail, All-append, All-filter, All-weaker, All-map}
use Rattle.std.proofs.lemmas.List.Elements.{All-contains, All-contains_itself, Contains-get_or, Contains-push_cases}
use Rattle.outside.specs.Order.{Rising}
use Rattle.outside.specs.Watched.{IsWatched, ListsWatched}
use Rattle.outside.specs.Tree.{Given, IsKnown, AgreesOnStamps, paths_of, stamps_of}
use Rattle.outside.specs.Table.{files_before, files_after, with_file, without_file}
use Rattle.outside.specs.MemTree.{TreeState}
use Rattle.outside.specs.Glance.{given_of, IsSeen, IsNumbered}
use Rattle.outside.specs.declared.files.FileEntry.{FileEntry}
use Rattle.outside.specs.declared.files.Stamp.{Stamp}
use Rattle.outside.specs.declared.glance.Glance.{Glance}

-- ---- what an edit leaves
-- what holds of all files holds of them without one
pub without_all : (P : FileEntry → Type 0) (path : List ℕ) (files : List FileEntry) → All P files →
    All P (without_file path files)
without_all P path files all = All-append P (files_before path files) (files_after path files)
    (All-filter _ P files all) (All-filter _ P files all)

-- what holds of all files and of one more holds of them with that one
pub with_all : (P : FileEntry → Type 0) (file : FileEntry) (files : List FileEntry) → P file → All P files →
    All P (with_file file files)
with_all P file files here all =
    All-append P (files_before file.path files) (file ∷ files_after file.path files) (All-filter _ P files all)
    (All-cons P file (files_after file.path files) here (All-filter _ P files all))

-- files are watched without one of them
pub without_watched : (path : List ℕ) (files : List FileEntry) → All (λ f. IsWatched f.path) files →
    All (λ f. IsWatched f.path) (without_file path files)
without_watched path files all = without_all (λ f. IsWatched f.path) path files all

-- watched files whose paths rise are listed
pub lists_watched : (files : List FileEntry) → All (λ f. IsWatched f.path) files → Rising (paths_of files) →
    ListsWatched (paths_of files)
lists_watched files all rise = record { watched = All-map IsWatched (λ f. f.path) files all; rising = rise }

-- the same of the files that a tree is seen to hold
pub held_watched : (files held : List FileEntry) → files ≡ held → All (λ f. IsWatched f.path) files →
    Rising (paths_of files) → ListsWatched (paths_of held)
held_watched files held same all rise = subst (λ (fs : List FileEntry). ListsWatched (paths_of fs)) same
    (lists_watched files all rise)

-- one file more, and its stamp
pub stamps_more : (files : List FileEntry) (i : ℕ) (file : FileEntry) → i < length files → file ≡ get_or files i file
    → stamps_of (take (i + 1) files) ≡ stamps_of (take i files) ++ (file.path, file.stamp) ∷ []
stamps_more files i file lt is =
    let pair : FileEntry → List ℕ × Stamp = λ f. (f.path, f.stamp) in
    rw (take_more files i file lt, map-append pair (take i files) (get_or files i file ∷ []), ← is) refl

paths_of_stamps : (files : List FileEntry) → map (λ s. s.0) (stamps_of files) ≡ paths_of files
paths_of_stamps [] = refl
paths_of_stamps (file ∷ files) = ap (λ paths. file.path ∷ paths) (paths_of_stamps files)

-- the stamps of watched files are those of watched files
pub stamps_watched : (files : List FileEntry) (stamps : List (List ℕ × Stamp)) → stamps ≡ stamps_of files →
    ListsWatched (paths_of files) → ListsWatched (map (λ s. s.0) stamps)
stamps_watched files stamps is watched =
    subst (λ (paths : List (List ℕ)). ListsWatched paths)
    (sym (ap (map (λ (s : List ℕ × Stamp). s.0)) is ∙ paths_of_stamps files)) watched

-- ---- the numbers of writes
-- what is seen of less has the same numbers
fewer : (held held' : List FileEntry) (glances glances' : List Glance) (writes : ℕ)
    → ((f : FileEntry) → IsSeen held' glances' f → IsSeen held glances f) → IsNumbered held glances writes →
    IsNumbered held' glances' writes
fewer held held' glances glances' writes part is = record {
  numbered = λ f seen. is.numbered f (part f seen);
  unique = λ f g seen also. is.unique f g (part f seen) (part g also);
}

-- a removal keeps the numbers of writes
pub numbered-without : (path : List ℕ) (held : List FileEntry) (glances : List Glance) (writes : ℕ) →
    IsNumbered held glances writes → IsNumbered (without_file path held) glances writes
numbered-without path held glances writes = fewer held (without_file path held) glances glances writes
    (λ f seen. elim seen [
      | inl has ↦ inl (All-contains (Contains held) (without_file path held) f
          (without_all (Contains held) path held (All-contains_itself held)) has)
      | inr was ↦ inr was
    ])

-- a call keeps the numbers of writes
pub numbered-given : (held : List FileEntry) (glances : List Glance) (glance : Glance) (writes : ℕ) →
    glance.files ≡ held
    → IsNumbered held glances writes → IsNumbered held (glances ++ glance ∷ []) writes
numbered-given held glances glance writes same = fewer held held glances (glances ++ glance ∷ []) writes
    (λ f seen. elim seen [
      | inl has ↦ inl has
      | inr was ↦ elim (Contains-push_cases glances glance was.0 was.1) [
        | inl old ↦ inr (was.0, old, was.2)
        | inr e ↦ inl (let P : List FileEntry → Type 0 = λ files. Contains files f in
            subst P (ap (λ g. g.files) (sym e) ∙ same) was.2)
      ]
    ])

-- a write of a file that is not watched keeps the numbers of writes
pub numbered-next : (held : List FileEntry) (glances : List Glance) (writes next : ℕ) → next ≡ writes + 1 →
    IsNumbered held glances writes → IsNumbered held glances next
numbered-next held glances writes next one is = record {
  numbered = λ f seen. let h = is.numbered f seen in omega arith;
  unique = is.unique;
}

module _ (file : FileEntry) (held : List FileEntry) (glances : List Glance) (writes : ℕ)
    (next : file.stamp.time ≡ writes + 1) (is : IsNumbered held glances writes) where
  seen_with : (f : FileEntry) → IsSeen (with_file file held) glances f → IsSeen held glances f ⊎ (f ≡ file)
  seen_with f seen = elim seen [
    | inl has ↦ elim (All-contains (λ g. Contains held g ⊎ (g ≡ file)) (with_file file held) f
        (with_all (λ g. Contains held g ⊎ (g ≡ file)) file held (inr refl)
        (All-weaker (Contains held) (λ g. Contains held g ⊎ (g ≡ file)) (λ g c. inl c) held
        (All-contains_itself held))) has) [
          | inl old ↦ inl (inl old)
          | inr e ↦ inr e
        ]
    | inr was ↦ inl (inr was)
  ]

  at_most : (f : FileEntry) → IsSeen held glances f ⊎ (f ≡ file) → f.stamp.time ≤ writes + 1
  at_most f (inl old) = let h = is.numbered f old in omega arith
  at_most f (inr e) = let h : f.stamp.time ≡ file.stamp.time = ap (λ g. g.stamp.time) e in omega arith

  same_bytes : (f g : FileEntry) → IsSeen held glances f ⊎ (f ≡ file) → IsSeen held glances g ⊎ (g ≡ file) →
      f.stamp.time ≡ g.stamp.time → f.bytes ≡ g.bytes
  same_bytes f g (inl old) (inl also) e = is.unique f g old also e
  same_bytes f g (inl old) (inr new) e = let h = is.numbered f old in let k : g.stamp.time ≡ file.stamp.time =
      ap (λ z. z.stamp.time) new in absurd (omega arith)
  same_bytes f g (inr new) (inl old) e = let h = is.numbered g old in let k : f.stamp.time ≡ file.stamp.time =
      ap (λ z. z.stamp.time) new in absurd (omega arith)
  same_bytes f g (inr new) (inr also) e = ap (λ z. z.bytes) (new ∙ sym also)

  -- a write of a watched file has the next number
  pub numbered-with : IsNumbered (with_file file held) glances (writes + 1)
  numbered-with = record {
    numbered = λ f seen. at_most f (seen_with f seen);
    unique = λ f g seen also. same_bytes f g (seen_with f seen) (seen_with g also);
  }

-- ---- equal stamps
some_glance : Glance
some_glance = record { files = []; whole = false }

in_snapshot : (whole : Bool) (files : List FileEntry) (f : FileEntry) →
    IsSomeAnd (cond whole (Some files) None) (λ s. Contains s f) → Contains files f
in_snapshot true files f h = h
in_snapshot false files f h = absurd h

known_seen : (held : List FileEntry) (glances : List Glance) (f : FileEntry) →
    IsKnown held (map given_of glances) f → IsSeen held glances f
known_seen held glances f (inl has) = inl has
known_seen held glances f (inr given) =
    let within : given.0 < length glances = simp length-map at given.2 in
    let glance : Glance = get_or glances given.0 some_glance in
    let is : given_of glance ≡ given.1 = sym (get_or-map given_of glances given.0 some_glance given.1 within)
    ∙ given.3 in
    let P : Given → Type 0 = λ item. IsSomeAnd item.snapshot (λ s. Contains s f) in
    inr (
      glance,
      Contains-get_or glances given.0 some_glance within,
      in_snapshot glance.whole glance.files f
          (subst P (sym is) given.4),
    )

-- files numbered by their writes agree on their stamps
pub agrees : (held : List FileEntry) (glances : List Glance) (writes : ℕ) → IsNumbered held glances writes →
    AgreesOnStamps (Some held) (Some (map given_of glances))
agrees held glances writes is f g known also path stamp =
    is.unique f g (known_seen held glances f known) (known_seen held glances g also) (ap (λ s. s.time) stamp)

-- the same of a tree that is seen as holding and having given these
pub agrees_as : (held : List FileEntry) (glances : List Glance) (writes : ℕ) (tree : TreeState)
    → held ≡ tree.held → map given_of glances ≡ tree.given → IsNumbered held glances writes →
    AgreesOnStamps (Some tree.held) (Some tree.given)
agrees_as held glances writes tree same gave is =
    let h : AgreesOnStamps (Some tree.held) (Some (map given_of glances)) =
    subst (λ (fs : List FileEntry). AgreesOnStamps (Some fs) (Some (map given_of glances))) same
    (agrees held glances writes is) in
    subst (λ (gs : List Given). AgreesOnStamps (Some tree.held) (Some gs)) gave h

-- ---- whole lists of files
same_file : (x y : FileEntry) → x.path ≡ y.path → x.bytes ≡ y.bytes → x.stamp ≡ y.stamp → x ≡ y
same_file x y path bytes stamp i = record { path = path i; bytes = bytes i; stamp = stamp i }

-- In a tree that tells, equal stamps mean equal files: of two snapshots that it gave or holds.
pub same_stamps-same_files : (held : List FileEntry) (given : List Given) → AgreesOnStamps (Some held) (Some given) →
    (xs ys : List FileEntry)
    → All (IsKnown held given) xs → All (IsKnown held given) ys → stamps_of xs ≡ stamps_of ys → xs ≡ ys
same_stamps-same_files held given agree [] [] known also same = refl
same_stamps-same_files held given agree [] (y ∷ ys) known also same = cc
same_stamps-same_files held given agree (x ∷ xs) [] known also same = cc
same_stamps-same_files held given agree (x ∷ xs) (y ∷ ys) known also same =
    let first : ◌≡◌ {A = List ℕ × Stamp} (x.path, x.stamp) (y.path, y.stamp) = cc in
    let rest : stamps_of xs ≡ stamps_of ys = cc in
    let path : x.path ≡ y.path = ap (λ p. p.0) first in
    let stamp : x.stamp ≡ y.stamp = ap (λ p. p.1) first in
    let bytes : x.bytes ≡ y.bytes = agree x y (All-head (IsKnown held given) x xs known)
    (All-head (IsKnown held given) y ys also) path stamp in
    let here : x ≡ y = same_file x y path bytes stamp in
    let there : xs ≡ ys = same_stamps-same_files held given agree xs ys (All-tail (IsKnown held given) x xs known)
    (All-tail (IsKnown held given) y ys also) rest in
    cc
