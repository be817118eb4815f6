use Rattle.std.proofs.Common.{List, subst}
use Rattle.std.proofs.lemmas.Bool.{false≢true}
use Rattle.tree_scan_sites.specs.declared.spelled.Spelled.{Spelled}
use Rattle.tree_scan_sites.specs.Sites.{ListsChildren}
use Rattle.tree_scan_sites.specs.Listed.{Lists}
use Rattle.tree_scan_sites.proofs.TableLaws.{tops_are, found_children, missing_children}
use Rattle.tree_scan_sites.proofs.table.SiteTable.children.Goals as goal

pub returns-then-is_empty : goal.returns-then-is_empty
returns-then-is_empty c =
    subst (λ (ss : List Spelled). ListsChildren (Lists ss) c.args.path.now c.self.inside.top) c.self.view_is
    (tops_are c.self.invariant c.args.path.now (c.is_empty.ensures.0 c.if-is_empty.true))

pub returns-in-Ok : goal.returns-in-Ok
returns-in-Ok c =
    let within = rw c.as_slice.ensures.value at c.in-Ok.ensures.bound in
    let equal = rw (c.as_slice.ensures.value, c.as_slice-2.ensures) at c.in-Ok.ensures.position in
    subst (λ (ss : List Spelled). ListsChildren (Lists ss) c.args.path.now c.index.result.now.children) c.self.view_is
    (found_children c.self.invariant c.args.path.now c.in-Ok.place c.index.result.now within c.index.ensures equal)

pub returns-in-Err : goal.returns-in-Err
returns-in-Err c =
    let parts = rw (c.as_slice.ensures.value, c.as_slice-2.ensures) at c.in-Err.ensures.position in
    subst (λ (ss : List Spelled). ListsChildren (Lists ss) c.args.path.now c.self.inside.none) c.self.view_is
    (missing_children c.self.invariant c.args.path.now c.in-Err.field-0 parts
    (λ e. false≢true (c.if-is_empty.ensures.1 e)))
