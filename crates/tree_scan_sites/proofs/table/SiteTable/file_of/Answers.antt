use Rattle.std.proofs.Common.{ℕ, List, subst}
use Rattle.std.specs.Prelude.{IfSome, IfNone}
use Rattle.tree_scan_sites.specs.declared.spelled.Spelled.{Spelled}
use Rattle.tree_scan_sites.specs.Sites.{IsFileOf}
use Rattle.tree_scan_sites.specs.Listed.{Lists}
use Rattle.tree_scan_sites.proofs.TableLaws.{found_file, no_file}
use Rattle.tree_scan_sites.proofs.table.SiteTable.file_of.Goals as goal

pub returns-clause-found : goal.returns-clause-found
returns-clause-found c =
    let first = rw (c.as_slice-2.ensures, c.as_slice.ensures.value) at c.file_in.ensures in
    subst (λ (ss : List Spelled). IfSome c.file_in.result (IsFileOf (Lists ss) c.args.path.now)) c.self.view_is
    (found_file c.self.invariant c.args.path.now c.file_in.result first)

pub returns-clause-none : goal.returns-clause-none
returns-clause-none c =
    let first = rw (c.as_slice-2.ensures, c.as_slice.ensures.value) at c.file_in.ensures in
    subst (λ (ss : List Spelled). IfNone c.file_in.result ((file : ℕ) → IsFileOf (Lists ss) c.args.path.now file →
    ⊥)) c.self.view_is
    (no_file c.self.invariant c.args.path.now c.file_in.result first)
