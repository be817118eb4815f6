use Rattle.tree_scan_roots.proofs.FaultLaws.{only_fault}
use Rattle.tree_scan_roots.proofs.table.RootTable.new.Goals as goal

pub returns-clause-only : goal.returns-clause-only
returns-clause-only c = only_fault c.args.lines.now c.collect_roots.result c.collect_roots.ensures.once
    c.collect_roots.ensures.fault
