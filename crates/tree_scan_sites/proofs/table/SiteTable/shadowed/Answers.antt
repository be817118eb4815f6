use Rattle.std.proofs.Common.{List, ℕ, ◌↔◌, Contains, subst, sym}
use Rattle.tree_scan_sites.specs.declared.spelled.Spelled.{Spelled}
use Rattle.tree_scan_sites.specs.Sites.{IsShadowed}
use Rattle.tree_scan_sites.specs.Listed.{Lists}
use Rattle.tree_scan_sites.proofs.TableLaws.{shadowed_exact}
use Rattle.tree_scan_sites.proofs.table.SiteTable.shadowed.Goals as goal

pub returns-clause-exact : goal.returns-clause-exact
returns-clause-exact c = λ file.
    subst (λ (ss : List Spelled). Contains c.as_slice.result.now file ↔ IsShadowed (Lists ss) file) c.self.view_is
    (subst (λ (fs : List ℕ). Contains fs file ↔ IsShadowed (Lists c.self.inside.spelled.items) file)
    (sym c.as_slice.ensures.value) (shadowed_exact c.self.invariant file))
