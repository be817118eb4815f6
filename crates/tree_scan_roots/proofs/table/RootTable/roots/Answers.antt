use Rattle.std.proofs.Common.{AllPairs, ◌≢◌, subst}
use Rattle.tree_scan_roots.specs.Roots.{root_paths}
use Rattle.tree_scan_roots.proofs.KeyLaws.{distinct}
use Rattle.tree_scan_roots.proofs.table.RootTable.roots.Goals as goal

pub returns-clause-distinct : goal.returns-clause-distinct
returns-clause-distinct c = subst (λ roots. AllPairs (λ a b. a ≢ b) (root_paths roots)) c.self.view_is
    (distinct (root_paths c.self.inside.roots) c.self.inside.numbers c.self.invariant)
