-- Files with their roots and the segments of their paths.
use Rattle.std.specs.Prelude.{◌≡◌, ◌<◌, List, length}
use Rattle.outside.specs.declared.files.FileEntry.{FileEntry}
use Rattle.plain_text.specs.Segments.{segments}
use Rattle.tree_scan_roots.specs.Above.{IsLongestAbove}
use Rattle.tree_scan_roots.specs.declared.roots.Root.{Root}
use Rattle.tree_scan.specs.Sites.{path_at}
use Rattle.eager_order.specs.declared.placed.PlacedFile.{PlacedFile}

-- the root is the longest above the file's path, and the segments are the path's
pub record IsPlaced (roots : List Root) (files : List FileEntry) (placed : PlacedFile) : Type 0 where
  pub within : placed.file < length files
  pub below : IsLongestAbove roots (path_at files placed.file) placed.root
  pub cut : placed.segments ≡ segments (path_at files placed.file)
