use Rattle.std.proofs.Common.{List, ℕ, All, AllPairs, Contains, subst, sym}
use Rattle.tree_scan_sites.specs.declared.spelled.Spelled.{Spelled}
use Rattle.tree_scan_sites.specs.declared.spelled.SiteRow.{SiteRow}
use Rattle.tree_scan_sites.specs.declared.spelled.Site.{Site}
use Rattle.tree_scan_sites.specs.Paths.{IsBeforePath}
use Rattle.tree_scan_sites.specs.Sites.{IsSite, ListsChildren}
use Rattle.tree_scan_sites.specs.Listed.{Lists}
use Rattle.tree_scan_sites.specs.Rows.{paths_of_rows}
use Rattle.tree_scan_sites.proofs.TableLaws.{all_sites, all_children, all_listed, rows_rise}
use Rattle.tree_scan_sites.proofs.table.SiteTable.rows.Goals as goal

pub returns-clause-sites : goal.returns-clause-sites
returns-clause-sites c =
    subst (λ (ss : List Spelled). All (λ row. IsSite (Lists ss) row.path row.site) c.as_slice.result.now) c.self.view_is
    (subst (λ (rows : List SiteRow). All (λ row. IsSite (Lists c.self.inside.spelled.items) row.path row.site) rows)
    (sym c.as_slice.ensures.value) (all_sites c.self.invariant))

pub returns-clause-children : goal.returns-clause-children
returns-clause-children c =
    subst (λ (ss : List Spelled). All (λ row. ListsChildren (Lists ss) row.path row.children) c.as_slice.result.now)
    c.self.view_is
    (subst (λ (rows : List SiteRow).
    All (λ row. ListsChildren (Lists c.self.inside.spelled.items) row.path row.children) rows)
    (sym c.as_slice.ensures.value) (all_children c.self.invariant))

pub returns-clause-complete : goal.returns-clause-complete
returns-clause-complete c =
    subst (λ (ss : List Spelled). (path : List (List ℕ)) (site : Site) → IsSite (Lists ss) path site →
    Contains (paths_of_rows c.as_slice.result.now) path) c.self.view_is
    (subst (λ (rows : List SiteRow). (path : List (List ℕ)) (site : Site) →
    IsSite (Lists c.self.inside.spelled.items) path site → Contains (paths_of_rows rows) path)
    (sym c.as_slice.ensures.value) (all_listed c.self.invariant))

pub returns-clause-rising : goal.returns-clause-rising
returns-clause-rising c =
    subst (λ (rows : List SiteRow). AllPairs (λ row later. IsBeforePath row.path later.path) rows)
    (sym c.as_slice.ensures.value) (rows_rise c.self.invariant)
