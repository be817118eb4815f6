use Rattle.tree_scan.proofs.PathLaws.{told_paths}
use Rattle.tree_scan.proofs.scanning.paths_of.Goals as goal

pub returns : goal.returns
returns c = told_paths c.args.files.now c.args.numbers.now c.copied_paths.result c.requires.within
    c.requires.files_rise c.requires.numbers_rise c.copied_paths.ensures
