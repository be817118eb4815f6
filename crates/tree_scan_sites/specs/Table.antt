-- What a table of sites keeps: its spellings in order, and what follows from them.
use Rattle.std.specs.Prelude.{◌≡◌, ℕ, List, [], nat_eq}
use Rattle.std.specs.List.{list_any}
use Rattle.std.specs.List.Sorted.{IsSorted, IsStrictlyIncreasing}
use Rattle.tree_scan_sites.specs.declared.spelled.Spelled.{Spelled}
use Rattle.tree_scan_sites.specs.declared.spelled.SiteRow.{SiteRow}
use Rattle.tree_scan_sites.specs.Listed.{spelled_order, hidden_files}
use Rattle.tree_scan_sites.specs.Reached.{paths_from}
use Rattle.tree_scan_sites.specs.Rows.{rows_of, children_run}

pub record IsTable (spelled : List Spelled) (all : List SiteRow) (tops nothing : List (List ℕ))
    (files : List ℕ) : Type 0 where
  pub sorted : IsSorted spelled_order spelled
  pub rows : all ≡ rows_of spelled (paths_from [] spelled)
  pub top : tops ≡ children_run 0 (paths_from [] spelled)
  pub none : nothing ≡ []
  pub rising : IsStrictlyIncreasing files
  pub hidden : (file : ℕ) → list_any (nat_eq file) files ≡ list_any (nat_eq file) (hidden_files spelled spelled)
