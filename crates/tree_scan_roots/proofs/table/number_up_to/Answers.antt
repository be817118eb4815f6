use Rattle.tree_scan_roots.proofs.AboveLaws.{above_at, found_is}
use Rattle.tree_scan_roots.proofs.table.number_up_to.Goals as goal

pub returns-then-path-end-eq47-clause-found : goal.returns-then-path-end-eq47-clause-found
returns-then-path-end-eq47-clause-found c = found_is c.number_of.result _ c.number_of.ensures
    (above_at c.args.path.now c.args.end c.requires c.if-path-end-eq47.true)
