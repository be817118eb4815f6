-- Laws of sites: a constant has one at most, and relations that hold of the same spellings give the same sites.
use Rattle.std.proofs.Common.{◌≡◌, ◌↔◌, ℕ, List, [], ◌∷◌, ◌++◌, refl, ap}
use Rattle.std.specs.List.Sorted.{IsPermutation}
use Rattle.std.proofs.lemmas.List.Sorted.{Contains-permutation, IsPermutation-sym}
use Rattle.tree_scan_sites.specs.declared.spelled.Spelled.{Spelled}
use Rattle.tree_scan_sites.specs.declared.spelled.Site.{Site}
use Rattle.tree_scan_sites.specs.declared.spelled.Site.TheVariants.{File, Explicit, Namespace}
use Rattle.tree_scan_sites.specs.Sites.{IsFileOf, IsNamespace, IsShadowed, IsNamedSite, IsSite, IsChild, ListsChildren}
use Rattle.tree_scan_sites.specs.Listed.{Lists}
use Rattle.tree_scan_sites.proofs.FileLaws.{one_file}

-- ---- a constant has one file and one site at most
-- a constant has one file at most
pub one_file_of : (P : List (List ℕ) → ℕ → ℕ → Type 0) (c : List (List ℕ)) (f g : ℕ) → IsFileOf P c f →
    IsFileOf P c g → f ≡ g
one_file_of P c f g h k = one_file P c f g h k

one_named : (P : List (List ℕ) → ℕ → ℕ → Type 0) (c : List (List ℕ)) (s t : Site) → IsNamedSite P c s →
    IsNamedSite P c t → s ≡ t
one_named P c (File f) (File g) h k = ap File (one_file P c f g h.0 k.0)
one_named P c (File f) (Explicit g) h k = absurd (h.1 k.1)
one_named P c (File f) Namespace h k = absurd (k.1 f h.0)
one_named P c (Explicit f) (File g) h k = absurd (k.1 h.1)
one_named P c (Explicit f) (Explicit g) h k = ap Explicit (one_file P c f g h.0 k.0)
one_named P c (Explicit f) Namespace h k = absurd (k.1 f h.0)
one_named P c Namespace (File g) h k = absurd (h.1 g k.0)
one_named P c Namespace (Explicit g) h k = absurd (h.1 g k.0)
one_named P c Namespace Namespace h k = refl

-- a constant has one site at most
pub one_site : (P : List (List ℕ) → ℕ → ℕ → Type 0) (c : List (List ℕ)) (s t : Site) → IsSite P c s → IsSite P c t →
    s ≡ t
one_site P [] s t h k = absurd h
one_site P (name ∷ names) s t h k = one_named P (name ∷ names) s t h k

-- ---- relations that hold of the same spellings
-- both relations hold of the same constants, roots and files
abbrev pub SameSpellings : (P Q : List (List ℕ) → ℕ → ℕ → Type 0) → Type 0
SameSpellings P Q = (c : List (List ℕ)) (root file : ℕ) → P c root file ↔ Q c root file

-- that the same is spelled holds both ways
pub same_back : (P Q : List (List ℕ) → ℕ → ℕ → Type 0) → SameSpellings P Q → SameSpellings Q P
same_back P Q same c root file = ((same c root file).1, (same c root file).0)

module _ (P Q : List (List ℕ) → ℕ → ℕ → Type 0) (same : SameSpellings P Q) where
  -- where the same is spelled, a constant has the same file
  pub same_file_of : (c : List (List ℕ)) (file : ℕ) → IsFileOf P c file → IsFileOf Q c file
  same_file_of c file h = (h.0, (same c h.0 file).0 h.1, λ root other k. h.2 root other ((same c root other).1 k))

  -- where the same is spelled, the same constants are namespaces
  pub same_namespace : (c : List (List ℕ)) → IsNamespace P c → IsNamespace Q c
  same_namespace c h = (h.0, h.1, h.2, h.3, (same (c ++ h.0 ∷ h.1) h.2 h.3).0 h.4)

module _ (P Q : List (List ℕ) → ℕ → ℕ → Type 0) (same : SameSpellings P Q) where
  abbrev back : SameSpellings Q P
  back = same_back P Q same

  -- where the same is spelled, the same files are shadowed
  pub same_shadowed : (file : ℕ) → IsShadowed P file → IsShadowed Q file
  same_shadowed file h = (h.0, h.1, (same h.0 h.1 file).0 h.2, λ k. h.3 (same_file_of Q P back h.0 file k))

  same_named : (c : List (List ℕ)) (s : Site) → IsNamedSite P c s → IsNamedSite Q c s
  same_named c (File file) h = (same_file_of P Q same c file h.0, λ k. h.1 (same_namespace Q P back c k))
  same_named c (Explicit file) h = (same_file_of P Q same c file h.0, same_namespace P Q same c h.1)
  same_named c Namespace h = (same_namespace P Q same c h.0, λ file k. h.1 file (same_file_of Q P back c file k))

  -- where the same is spelled, a constant has the same site
  pub same_site : (c : List (List ℕ)) (s : Site) → IsSite P c s → IsSite Q c s
  same_site [] s h = h
  same_site (name ∷ names) s h = same_named (name ∷ names) s h

  -- where the same is spelled, a constant has the same children
  pub same_child : (c : List (List ℕ)) (name : List ℕ) → IsChild P c name → IsChild Q c name
  same_child c name h = (h.0, same_site (c ++ name ∷ []) h.0 h.1)

-- children follow from what is spelled
pub same_children : (P Q : List (List ℕ) → ℕ → ℕ → Type 0) → SameSpellings P Q →
    (c : List (List ℕ)) (names : List (List ℕ)) → ListsChildren P c names → ListsChildren Q c names
same_children P Q same c names h = record {
  exact = λ name. (
    λ k. same_child P Q same c name ((h.exact name).0 k),
    λ k.
        (h.exact name).1 (same_child Q P (same_back P Q same) c name k),
  );
  rising = h.rising;
}

-- a list in another order has the same spellings
pub same_listed : (spelled other : List Spelled) → IsPermutation spelled other →
    SameSpellings (Lists spelled) (Lists other)
same_listed spelled other moved c root file = (
  λ h. Contains-permutation spelled other (record { constant = c; root = root; file = file }) moved h,
  λ h. Contains-permutation other spelled (record { constant = c; root = root; file = file })
      (IsPermutation-sym spelled other moved) h,
)
