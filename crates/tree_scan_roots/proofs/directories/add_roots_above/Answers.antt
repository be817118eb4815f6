use Rattle.tree_scan_roots.proofs.DirectoryLaws.{both_added}
use Rattle.tree_scan_roots.proofs.directories.add_roots_above.Goals as goal

pub returns : goal.returns
returns c = λ other. both_added _ _ _ _ _ _ _ _ (c.in_ok-add_some.ensures other) (c.in_ok-add_some-2.ensures other)
    (c.top_root.ensures other) (c.concerns_above.ensures other)
