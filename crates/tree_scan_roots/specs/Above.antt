-- The roots above a path.
use Rattle.std.specs.Prelude.{◌≡◌, ℕ, ◌≤◌, List, Some, length, slice_get, Contains}
use Rattle.tree_scan_roots.specs.Directories.{IsAbove}
use Rattle.tree_scan_roots.specs.declared.roots.Root.{Root}

-- The root of this number is above the path, and any root above it is no longer. Of two roots above one path the longer
-- one is below the other.
pub record IsLongestAbove (roots : List Root) (path : List ℕ) (number : ℕ) : Type 0 where
  pub root : Root
  pub at : slice_get roots number ≡ Some root
  pub above : IsAbove root.path path
  pub longest : (other : Root) → Contains roots other → IsAbove other.path path → length other.path ≤ length root.path

-- no root is above the path
abbrev pub NoneAbove : (roots : List Root) → (path : List ℕ) → Type 0
NoneAbove roots path = (root : Root) → Contains roots root → IsAbove root.path path → ⊥
