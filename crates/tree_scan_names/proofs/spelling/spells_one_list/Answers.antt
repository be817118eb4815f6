use Rattle.tree_scan_names.proofs.SpellLaws.{SpellsBelow-one}
use Rattle.tree_scan_names.proofs.spelling.spells_one_list.Goals as goal

pub returns : goal.returns
returns c = λ names others h k. SpellsBelow-one c.args.config.now c.args.root.now c.args.below.now names others h k
