-- The table's rows: the functions that they are made by.
use Rattle.std.specs.Prelude.{ℕ, zero, suc, Bool, true, false, cond, List, [], ◌∷◌, ◌++◌, map, length, Option, Some}
use Rattle.std.specs.Prelude.{None, ◌==◌, nat_lt}
use Rattle.tree_scan_sites.specs.declared.spelled.Spelled.{Spelled}
use Rattle.tree_scan_sites.specs.declared.spelled.SiteRow.{SiteRow}
use Rattle.tree_scan_sites.specs.declared.spelled.Site.{Site}
use Rattle.tree_scan_sites.specs.declared.spelled.Site.TheVariants.{File, Explicit, Namespace}
use Rattle.tree_scan_sites.specs.Listed.{first_file}

-- the paths of the rows, in their order
abbrev pub paths_of_rows : List SiteRow → List (List (List ℕ))
paths_of_rows rows = map (λ row. row.path) rows

-- the one name behind a front of so many names
abbrev pub last_behind : ℕ → List (List ℕ) → List (List ℕ)
last_behind n [] = []
last_behind zero (name ∷ []) = name ∷ []
last_behind zero (name ∷ next ∷ names) = []
last_behind (suc n) (name ∷ names) = last_behind n names

-- the last names of the paths with one name more than this number, up to the first path with no more names than it
abbrev pub children_run : ℕ → List (List (List ℕ)) → List (List ℕ)
children_run n [] = []
children_run n (path ∷ paths) = cond (nat_lt n (length path)) (last_behind n path ++ children_run n paths) []

-- the site of a constant by its file, if it has one, and by whether it stands alone, without children
abbrev pub site_of : Option ℕ → (alone : Bool) → Site
site_of None alone = Namespace
site_of (Some file) true = File file
site_of (Some file) false = Explicit file

-- the row of a path that these paths follow
abbrev pub row_of : List Spelled → List (List ℕ) → List (List (List ℕ)) → SiteRow
row_of spelled path behind =
    let children = children_run (length path) behind in
    record { path = path; site = site_of (first_file path spelled) (length children == 0); children = children }

-- the row of each path, in the order of the paths
abbrev pub rows_of : List Spelled → List (List (List ℕ)) → List SiteRow
rows_of spelled [] = []
rows_of spelled (path ∷ paths) = row_of spelled path paths ∷ rows_of spelled paths
