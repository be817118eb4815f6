-- Roots above a path, from the longest one down.
use Rattle.std.proofs.Common.{◌≡◌, true, false, ℕ, suc, zero, ◌<◌, ◌+◌, List, [], ◌∷◌, length, take, drop, get_or}
use Rattle.std.proofs.Common.{Contains, inl, inr, Option, Some, None, refl, sym, ◌∙◌, ap, subst, arith}
use Rattle.std.specs.Prelude.{slice_get, is_some, IfSome, IfNone, MatchOption}
use Rattle.std.specs.Global.{Vec}
use Rattle.std.specs.BTreeMap as tree
use Rattle.std.proofs.lemmas.List.{length-append, length-take-le, length-map, get_or-map}
use Rattle.std.proofs.lemmas.Bool.{cases_lt}
use Rattle.tree_scan_roots.specs.Directories.{IsAbove}
use Rattle.tree_scan_roots.specs.Keys.{number_of, IsNumbering}
use Rattle.tree_scan_roots.specs.Roots.{root_paths}
use Rattle.tree_scan_roots.specs.Above.{IsLongestAbove}
use Rattle.tree_scan_roots.specs.declared.roots.Root.{Root}
use Rattle.tree_scan_roots.proofs.KeyLaws.{no_number}
use Rattle.tree_scan_roots.proofs.DirectoryLaws.{cut_at}

-- each root above the path is shorter than this
abbrev pub AllShorter : (roots : List Root) → (path : List ℕ) → (end : ℕ) → Type 0
AllShorter roots path end = (root : Root) → Contains roots root → IsAbove root.path path → length root.path < end

-- a directory above a path is shorter than the path
pub above_shorter : (directory path : List ℕ) → IsAbove directory path → length directory < length path
above_shorter directory path above = rw above.1 (rw length-append (omega arith))

-- what stands before a slash of a path is a directory above it
pub above_at : (path : List ℕ) (end : ℕ) → end < length path → get_or path end 0 ≡ 47 → IsAbove (take end path) path
above_at path end lt is = (drop (end + 1) path, cut_at path end lt is)

-- a root of a list, by a place of its path
pub root_at : (roots : List Root) (n : ℕ) (path : List ℕ) → slice_get (root_paths roots) n ≡ Some path →
    (root : Root) × (slice_get roots n ≡ Some root) × (root.path ≡ path)
root_at [] n path e = let z : None ≡ Some path = e in cc
root_at (root ∷ roots) zero path e = (root, refl, cc)
root_at (root ∷ roots) (suc n) path e = root_at roots n path e

-- the path of one of the roots is among the roots' paths
pub path_contained : (roots : List Root) (root : Root) → Contains roots root → Contains (root_paths roots) root.path
path_contained roots root has = (
  has.0,
  (let h = has.1 in simp length-map h),
  get_or-map (λ r. r.path) roots has.0 root root.path has.1
      ∙ ap (λ r. r.path) has.2,
)

module _ (roots : List Root) (numbers : tree.BTreeMap (Vec ℕ) ℕ) (are : IsNumbering (root_paths roots) numbers)
    (path : List ℕ) (end : ℕ) where
  -- no root ends here, so each root above is shorter still
  pub shorter_still : AllShorter roots path (end + 1) →
      ((directory : List ℕ) → IsAbove directory path → length directory ≡ end → number_of numbers directory ≡ None) →
      AllShorter roots path end
  shorter_still all none root has above = elim (cases_lt (length root.path) end) [
    | inl lt ↦ lt
    | inr ge ↦
        let l = all root has above in
        absurd (no_number (root_paths roots) numbers are root.path (none root.path above (omega arith))
        (path_contained roots root has))
  ]

  -- where no root above a path goes on behind a place, one that ends there is the longest above it
  pub longest_here : (number : ℕ) → end < length path → AllShorter roots path (end + 1) →
      IsAbove (take end path) path → number_of numbers (take end path) ≡ Some number → IsLongestAbove roots path number
  longest_here number within all above e =
      let at = root_at roots number (take end path) ((are (take end path) number).0 e) in
      record {
        root = at.0;
        at = at.1;
        above = subst (λ p. IsAbove p path) (sym at.2) above;
        longest = λ other has it.
            rw at.2 (rw (length-take-le end path (omega arith)) (let l = all other has it in omega arith));
      }

-- ---- an option's cases
-- where a number is found, it is the one that the look-up gives, and what was known holds
pub found_is : {A : Type 0} (o p : Option ℕ) → o ≡ p → A → IfSome o (λ n. A × (p ≡ Some n))
found_is None p e a = tt
found_is (Some n) p e a = (a, sym e)

-- a found number, by what was found of it
pub some_case : (N : Type 0) (A L : ℕ → Type 0) (o : Option ℕ) → is_some o ≡ true → IfSome o A →
    ((n : ℕ) → A n → L n) → MatchOption o N L
some_case N A L None e h f = let z : false ≡ true = e in cc
some_case N A L (Some n) e h f = f n h

-- what holds where nothing was found
pub none_case : {P : Type 0} (o : Option ℕ) → is_some o ≡ false → IfNone o P → P
none_case None e h = h
none_case (Some n) e h = let z : true ≡ false = e in cc
