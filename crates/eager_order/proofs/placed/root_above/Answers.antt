use Rattle.tree_scan.proofs.RootLaws.{none_longest}
use Rattle.eager_order.proofs.placed.root_above.Goals as goal

pub unreachable-requires : goal.unreachable-requires
unreachable-requires c =
    none_longest c.args.roots.now c.args.path.now c.requires.0 c.in-None.ensures c.requires.1
