use Rattle.std.proofs.Common.{subst}
use Rattle.outside.specs.Tree.{paths_of}
use Rattle.tree_scan_roots.specs.Roots.{AreRoots, NamesOnce}
use Rattle.tree_scan.specs.Sites.{AreSites}
use Rattle.tree_scan.proofs.ScanLaws.{table_spells, shadowed_within, are_sites}
use Rattle.tree_scan.proofs.scanning.scan.Goals as goal

pub paths_of-requires-clause-within : goal.paths_of-requires-clause-within
paths_of-requires-clause-within c =
    let exact = rw c.in_ok-rules.ensures at c.in_ok-spelled.ensures.exact in
    shadowed_within c.in_ok-roots.roots c.args.config.now c.as_slice-files.result.now c.in_ok-table.table
    c.shadowed.result.now
    (table_spells c.in_ok-roots.roots c.args.config.now c.as_slice-files.result.now c.in_ok-spelled.spelled.items
    c.in_ok-table.table c.in_ok-table.ensures exact)
    c.shadowed.ensures.exact

pub returns-clause-sites : goal.returns-clause-sites
returns-clause-sites c =
    let exact = rw c.in_ok-rules.ensures at c.in_ok-spelled.ensures.exact in
    let named = rw c.in_ok-rules.ensures at c.in_ok-spelled.ensures.named in
    subst (λ files. AreSites files c.args.config.now c.of.result) c.as_slice-files.ensures
    (are_sites c.in_ok-roots.roots c.args.config.now c.as_slice-files.result.now c.in_ok-spelled.spelled.items
    c.in_ok-table.table c.shadowed.result.now c.in_ok-shadowed.shadowed c.of.result
    (subst NamesOnce c.as_slice.ensures c.in_ok-roots.ensures.once)
    (subst (λ lines. AreRoots (paths_of c.as_slice-files.result.now) lines c.in_ok-roots.roots) c.as_slice.ensures
    c.in_ok-roots.ensures.roots)
    c.in_ok-table.ensures exact named c.shadowed.ensures.exact
    c.in_ok-shadowed.ensures c.of.ensures.spelled c.of.ensures.shadowed)
