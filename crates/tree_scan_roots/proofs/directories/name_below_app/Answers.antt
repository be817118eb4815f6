use Rattle.tree_scan_roots.proofs.DirectoryLaws.{no_name, none_weaker}
use Rattle.tree_scan_roots.proofs.directories.name_below_app.Goals as goal

pub returns-in-Some-clause-none : goal.returns-in-Some-clause-none
returns-in-Some-clause-none c = none_weaker _ c.first_name.result c.first_name.ensures
    (no_name c.args.path.now c.in-Some.below.now c.in-Some.ensures)
