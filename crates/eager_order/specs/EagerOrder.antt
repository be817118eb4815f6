-- In which order an application's files are loaded eagerly (Zeitwerk README, "Eager loading"): root after root. That
-- the directories below a root are gone through breadth first, and the entries of each by their bytes, is this
-- project's own.
use Rattle.std.specs.Prelude.{◌≡◌, ℕ, List, length, AllPairs}
use Rattle.std.specs.List.Sorted.{IsPermutation}
use Rattle.std.specs.Ordering.{nat_cmp, ordering_then}
use Rattle.std.specs.declared.cmp.Ordering.{Ordering}
use Rattle.std.specs.declared.cmp.Ordering.TheVariants.{Less}
use Rattle.outside.specs.declared.files.FileEntry.{FileEntry}
use Rattle.plain_text.specs.Segments.{segments}
use Rattle.tree_scan_sites.specs.Paths.{path_order}
use Rattle.tree_scan_roots.specs.Above.{IsLongestAbove}
use Rattle.tree_scan_roots.specs.declared.roots.Root.{Root}
use Rattle.tree_scan.specs.Sites.{path_at}
use Rattle.eager_order.specs.declared.placed.PlacedFile.{PlacedFile}

-- Of two files below roots the one below the earlier root comes first; below one root, the one below fewer directories;
-- and of those below as many, the one whose name or directory comes first by its bytes, where the two paths first
-- differ.
abbrev pub placed_order : PlacedFile → PlacedFile → Ordering
placed_order a b = ordering_then (nat_cmp a.root b.root)
    (ordering_then (nat_cmp (length a.segments) (length b.segments)) (path_order a.segments b.segments))

-- the file of a number whose path is this one, below the root of a number
abbrev pub placed_at : (root : ℕ) → (path : List ℕ) → (file : ℕ) → PlacedFile
placed_at root path file = record { root = root; segments = segments path; file = file }

-- the path is below a root
abbrev pub IsBelowRoot : List Root → (path : List ℕ) → Type 0
IsBelowRoot roots path = (root : ℕ) × IsLongestAbove roots path root

-- The file comes before the other: by the longest root above each and by its path.
pub record ComesBefore (roots : List Root) (files : List FileEntry) (file other : ℕ) : Type 0 where
  pub root : ℕ
  pub other_root : ℕ
  pub below : IsLongestAbove roots (path_at files file) root
  pub other_below : IsLongestAbove roots (path_at files other) other_root
  pub before : placed_order (placed_at root (path_at files file) file)
      (placed_at other_root (path_at files other) other) ≡ Less

-- the files of these numbers in eager order: each comes before all later ones
pub record AreInEagerOrder (roots : List Root) (files : List FileEntry) (numbers ordered : List ℕ) : Type 0 where
  pub same : IsPermutation numbers ordered
  pub rising : AllPairs (ComesBefore roots files) ordered
