-- The longest root above a path is one, and what stands below it.
use Rattle.std.proofs.Common.{◌≡◌, ◌≢◌, ◌⊎◌, ℕ, ◌<◌, List, [], ◌∷◌, ◌++◌, length, get_or}
use Rattle.std.proofs.Common.{Some, slice_get, slice_index, Contains, AllPairs, refl, sym, ap, ◌∙◌, subst, inl, inr}
use Rattle.std.proofs.Common.{arith}
use Rattle.std.proofs.lemmas.List.{length-append, length-map}
use Rattle.std.proofs.Math.Seq.{take-append_seam, drop-append-add}
use Rattle.std.proofs.lemmas.Option.{slice_get_within, get_or_from_slice_get}
use Rattle.std.proofs.lemmas.List.Elements.{Contains-get_or}
use Rattle.tree_scan_roots.specs.declared.roots.Root.{Root}
use Rattle.tree_scan_roots.specs.Roots.{root_paths}
use Rattle.tree_scan_roots.specs.Above.{IsLongestAbove, NoneAbove}
use Rattle.tree_scan_names.specs.Spellings.{above, behind}
use Rattle.tree_scan.proofs.PathLaws.{at_map}

-- the root's length in the path, and what stands around the slash there
pub at_root : (root path below : List ℕ) → path ≡ root ++ 47 ∷ below → above path (length root) ≡ root
at_root root path below e = rw e (take-append_seam root (47 ∷ below))

-- what stands behind a root's slash is the part of the path below it
pub below_root : (root path below : List ℕ) → path ≡ root ++ 47 ∷ below → behind path (length root) ≡ below
below_root root path below e = rw e (drop-append-add root (47 ∷ below) 1)

-- a root above a path is shorter than it
pub inside_path : (root path below : List ℕ) → path ≡ root ++ 47 ∷ below → length root < length path
inside_path root path below e = rw (e, length-append root (47 ∷ below)) (omega arith)

slash_behind : (root below : List ℕ) → slice_index (root ++ 47 ∷ below) (length root) ≡ 47
slash_behind [] below = refl
slash_behind (b ∷ root) below = slash_behind root below

-- behind a root above a path stands a slash
pub slash_there : (root path below : List ℕ) → path ≡ root ++ 47 ∷ below → slice_index path (length root) ≡ 47
slash_there root path below e = rw e (slash_behind root below)

among : (roots : List Root) (n : ℕ) (root : Root) → slice_get roots n ≡ Some root → Contains roots root
among roots n root e = subst (λ r. Contains roots r) (get_or_from_slice_get roots n root root e)
    (Contains-get_or roots n root (slice_get_within roots n root e))

-- where no root is above a path, there is no longest one
pub none_longest : (roots : List Root) (path : List ℕ) (n : ℕ) → NoneAbove roots path → IsLongestAbove roots path n → ⊥
none_longest roots path n none l = none l.root (among roots n l.root l.at) l.above

module _ (roots : List Root) (path : List ℕ) where
  same_length : (m n : ℕ) (a : IsLongestAbove roots path m) (b : IsLongestAbove roots path n) →
      length a.root.path ≡ length b.root.path
  same_length m n a b =
      let p = a.longest b.root (among roots n b.root b.at) b.above in
      let q = b.longest a.root (among roots m a.root a.at) a.above in
      omega (arith, p, q)

module _ (roots : List Root) (path : List ℕ) where
  -- all longest roots above a path have one path
  pub same_path : (m n : ℕ) (a : IsLongestAbove roots path m) (b : IsLongestAbove roots path n) →
      a.root.path ≡ b.root.path
  same_path m n a b =
      sym (at_root a.root.path path a.above.0 a.above.1)
      ∙ ap (above path) (same_length roots path m n a b)
      ∙ at_root b.root.path path b.above.0 b.above.1

  -- below all longest roots above a path stands the same part of it
  pub same_below : (m n : ℕ) (a : IsLongestAbove roots path m) (b : IsLongestAbove roots path n) → a.above.0 ≡ b.above.0
  same_below m n a b =
      sym (below_root a.root.path path a.above.0 a.above.1)
      ∙ ap (behind path) (same_length roots path m n a b)
      ∙ below_root b.root.path path b.above.0 b.above.1

-- the path of a root at its number
path_at_number : (roots : List Root) (n : ℕ) (root : Root) → slice_get roots n ≡ Some root →
    get_or (root_paths roots) n [] ≡ root.path
path_at_number roots n root e = at_map (λ r. r.path) roots n [] root (slice_get_within roots n root e)
    ∙ ap (λ r. r.path) (get_or_from_slice_get roots n root root e)

apart : (roots : List Root) (m n : ℕ) (a b : Root) → AllPairs (λ p q. p ≢ q) (root_paths roots) →
    slice_get roots m ≡ Some a → slice_get roots n ≡ Some b → a.path ≡ b.path → m < n → ⊥
apart roots m n a b distinct ea eb e lt =
    distinct m n [] lt (rw (length-map roots (λ r. r.path)) (slice_get_within roots n b eb))
    (path_at_number roots m a ea ∙ e ∙ sym (path_at_number roots n b eb))

three : (m n : ℕ) → (m < n) ⊎ ((n < m) ⊎ (m ≡ n))
three m n = grind arith

-- the longest root above a path is one alone
pub one_number : (roots : List Root) (path : List ℕ) (m n : ℕ) → AllPairs (λ p q. p ≢ q) (root_paths roots) →
    IsLongestAbove roots path m → IsLongestAbove roots path n → m ≡ n
one_number roots path m n distinct a b = elim (three m n) [
  | inl lt ↦ absurd (apart roots m n a.root b.root distinct a.at b.at (same_path roots path m n a b) lt)
  | inr rest ↦ elim rest [
    | inl gt ↦ absurd (apart roots n m b.root a.root distinct b.at a.at (same_path roots path n m b a) gt)
    | inr e ↦ e
  ]
]
