-- The roots of an application, in order, and the fault of root lines.
use Rattle.std.specs.Prelude.{◌≡◌, ◌≢◌, ◌↔◌, ℕ, Bool, List, [], ◌∷◌, ◌++◌, map, filter, not, AllPairs, Contains}
use Rattle.std.specs.Prelude.{bytes_eq, if◌then◌else◌, ⊤}
use Rattle.std.specs.List.{list_any}
use Rattle.outside.specs.Order.{Rising}
use Rattle.app_config.specs.declared.config.RootLine.{RootLine}
use Rattle.tree_scan_roots.specs.Directories.{IsDefaultRoot}
use Rattle.tree_scan_roots.specs.declared.roots.Root.{Root}
use Rattle.tree_scan_roots.specs.declared.roots.RootsFault.{RootsFault}
use Rattle.tree_scan_roots.specs.declared.roots.RootsFault.TheVariants.{TwoRoots, Memory}

-- the paths that root lines name
abbrev pub named : List RootLine → List (List ℕ)
named lines = map (λ line. line.path) lines

-- the paths of roots, in their order
abbrev pub root_paths : List Root → List (List ℕ)
root_paths roots = map (λ root. root.path) roots

-- the namespace that the first root line of this path gives it; Object, which has no names, where no line names it
abbrev pub namespace_of : (lines : List RootLine) → (path : List ℕ) → List (List ℕ)
namespace_of [] path = []
namespace_of (line ∷ rest) path = if bytes_eq line.path path then line.namespace else namespace_of rest path

-- the root at this directory, with the namespace that a root line gives it
abbrev pub default_root : (lines : List RootLine) → (directory : List ℕ) → Root
default_root lines directory = record { path = directory; namespace = namespace_of lines directory }

-- the root that a root line names
abbrev pub line_root : RootLine → Root
line_root line = record { path = line.path; namespace = line.namespace }

-- the line names none of these directories
abbrev pub names_none_of : (directories : List (List ℕ)) → RootLine → Bool
names_none_of directories line = not (list_any (bytes_eq line.path) directories)

-- The roots in order: the default roots in the order of their bytes, each with the namespace that a root line gives it,
-- and then the root lines that name no default root, in their order.
pub record AreRoots (paths : List (List ℕ)) (lines : List RootLine) (roots : List Root) : Type 0 where
  pub defaults : List (List ℕ)
  pub rising : Rising defaults
  pub exact : (directory : List ℕ) → Contains defaults directory ↔ IsDefaultRoot paths directory
  pub joined : roots ≡ map (default_root lines) defaults ++ map line_root (filter (names_none_of defaults) lines)

-- no two root lines name the same path
abbrev pub NamesOnce : List RootLine → Type 0
NamesOnce lines = AllPairs (λ a b. a ≢ b) (named lines)

-- The fault of root lines: the first line whose path an earlier line names has this path.
pub record IsTwoRoots (lines : List RootLine) (path : List ℕ) : Type 0 where
  pub before : List RootLine
  pub line : RootLine
  pub behind : List RootLine
  pub split : lines ≡ before ++ line ∷ behind
  pub names : line.path ≡ path
  pub again : Contains (named before) path
  pub once : NamesOnce before

-- a fault of the roots is that of the root lines, or memory ran out
abbrev pub IsFault : (lines : List RootLine) → RootsFault → Type 0
IsFault lines (TwoRoots path) = IsTwoRoots lines path
IsFault lines Memory = ⊤

-- a fault that says that this path is named twice, or that memory ran out
abbrev pub IsFaultAt : (path : List ℕ) → RootsFault → Type 0
IsFaultAt path (TwoRoots other) = other ≡ path
IsFaultAt path Memory = ⊤
