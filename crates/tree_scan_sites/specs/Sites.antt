-- What stands for constants that files spell: sites, children, shadowed files.
--
-- Each definition takes a relation P: `P c root file` where the file of this number spells the constant path c, below
-- the root of this number. A path is a list of names; that of Object is empty.
use Rattle.std.specs.Prelude.{◌≡◌, ◌⊎◌, ◌↔◌, ℕ, ◌<◌, ◌≤◌, List, [], ◌∷◌, ◌++◌, Contains}
use Rattle.outside.specs.Order.{Rising}
use Rattle.tree_scan_sites.specs.declared.spelled.Site.{Site}
use Rattle.tree_scan_sites.specs.declared.spelled.Site.TheVariants.{File, Explicit, Namespace}

-- the first root and file come no later than the second: roots decide by their numbers, and else files do
abbrev pub NoLater : (root file : ℕ) → (other_root other_file : ℕ) → Type 0
NoLater root file other_root other_file = (root < other_root) ⊎ ((root ≡ other_root) × (file ≤ other_file))

-- The file of a constant is the first among those that spell it (Zeitwerk README, "Shadowed files"): later ones are
-- not loaded.
abbrev pub IsFileOf : (List (List ℕ) → ℕ → ℕ → Type 0) → (c : List (List ℕ)) → (file : ℕ) → Type 0
IsFileOf P c file = (root : ℕ) × P c root file
    × ((other_root other_file : ℕ) → P c other_root other_file → NoLater root file other_root other_file)

-- A constant is a namespace where a file spells a constant inside it, however deep (Zeitwerk README, "Implicit
-- namespaces").
abbrev pub IsNamespace : (List (List ℕ) → ℕ → ℕ → Type 0) → (c : List (List ℕ)) → Type 0
IsNamespace P c = (name : List ℕ) × (names : List (List ℕ)) × (root : ℕ) × (file : ℕ) × P (c ++ name ∷ names) root file

-- A file is shadowed that spells a constant and isn't the constant's file.
abbrev pub IsShadowed : (List (List ℕ) → ℕ → ℕ → Type 0) → (file : ℕ) → Type 0
IsShadowed P file = (c : List (List ℕ)) × (root : ℕ) × P c root file × (IsFileOf P c file → ⊥)

-- The site of a constant that has a name: its file, a file that is a namespace too (Zeitwerk README, "Explicit
-- namespaces"), or a namespace alone.
abbrev pub IsNamedSite : (List (List ℕ) → ℕ → ℕ → Type 0) → (c : List (List ℕ)) → Site → Type 0
IsNamedSite P c (File file) = IsFileOf P c file × (IsNamespace P c → ⊥)
IsNamedSite P c (Explicit file) = IsFileOf P c file × IsNamespace P c
IsNamedSite P c Namespace = IsNamespace P c × ((file : ℕ) → IsFileOf P c file → ⊥)

-- Object, whose path is empty, has no site: no file stands for it.
abbrev pub IsSite : (List (List ℕ) → ℕ → ℕ → Type 0) → (c : List (List ℕ)) → Site → Type 0
IsSite P [] site = ⊥
IsSite P (name ∷ names) site = IsNamedSite P (name ∷ names) site

-- A constant's child is a name that has a site inside it. The children of Object are the top constants.
abbrev pub IsChild : (List (List ℕ) → ℕ → ℕ → Type 0) → (c : List (List ℕ)) → (name : List ℕ) → Type 0
IsChild P c name = (site : Site) × IsSite P (c ++ name ∷ []) site

-- these names are the children of the constant, rising by their bytes
pub record ListsChildren (P : List (List ℕ) → ℕ → ℕ → Type 0) (c : List (List ℕ)) (names : List (List ℕ)) : Type 0 where
  pub exact : (name : List ℕ) → Contains names name ↔ IsChild P c name
  pub rising : Rising names
