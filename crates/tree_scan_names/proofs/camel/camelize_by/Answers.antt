use Rattle.tree_scan_names.proofs.CamelLaws.{overridden_copy, plain_made}
use Rattle.tree_scan_names.proofs.camel.camelize_by.Goals as goal

pub returns-in-Some : goal.returns-in-Some
returns-in-Some c = overridden_copy c.args.rules.now c.args.base.now c.in-Some.constant.now c.copy.result
    c.in-Some.ensures c.copy.ensures

pub returns-in-None : goal.returns-in-None
returns-in-None c =
    plain_made c.args.rules.now c.args.base.now c.camelized_base.result c.in-None.ensures c.camelized_base.ensures
