use Rattle.std.proofs.Common.{List, subst}
use Rattle.tree_scan_sites.specs.declared.spelled.Spelled.{Spelled}
use Rattle.tree_scan_sites.specs.declared.spelled.Site.{Site}
use Rattle.tree_scan_sites.specs.Sites.{IsSite}
use Rattle.tree_scan_sites.specs.Listed.{Lists}
use Rattle.tree_scan_sites.proofs.TableLaws.{found_site, missing_site}
use Rattle.tree_scan_sites.proofs.table.SiteTable.site.Goals as goal

pub returns-in-Ok-clause-found : goal.returns-in-Ok-clause-found
returns-in-Ok-clause-found c =
    let within = rw c.as_slice.ensures.value at c.in-Ok.ensures.bound in
    let equal = rw (c.as_slice.ensures.value, c.as_slice-2.ensures) at c.in-Ok.ensures.position in
    subst (λ (ss : List Spelled). IsSite (Lists ss) c.args.path.now c.index.result.now.site) c.self.view_is
    (found_site c.self.invariant c.args.path.now c.in-Ok.place c.index.result.now within c.index.ensures equal)

pub returns-in-Err-clause-none : goal.returns-in-Err-clause-none
returns-in-Err-clause-none c =
    let parts = rw (c.as_slice.ensures.value, c.as_slice-2.ensures) at c.in-Err.ensures.position in
    subst (λ (ss : List Spelled). (site : Site) → IsSite (Lists ss) c.args.path.now site → ⊥) c.self.view_is
    (missing_site c.self.invariant c.args.path.now c.in-Err.field-0 parts)
