use Rattle.tree_report.proofs.ConfigurationLaws.{text_is_small}
use Rattle.tree_report.proofs.configuration.read_configuration.Goals as goal

pub read-requires : goal.read-requires
read-requires c = rw c.text_of.ensures (text_is_small c.args.files.now c.requires)
