use Rattle.tree_scan_names.proofs.CamelLaws.{overridden_copy, overridden_only, plain_made, plain_only}
use Rattle.tree_scan_names.proofs.camel.camelize.Goals as goal

pub returns-in-Some-clause-camelized : goal.returns-in-Some-clause-camelized
returns-in-Some-clause-camelized c = overridden_copy c.args.config.now c.args.base.now c.in-Some.constant.now
    c.copy.result c.in-Some.ensures c.copy.ensures

pub returns-in-Some-clause-only : goal.returns-in-Some-clause-only
returns-in-Some-clause-only c = overridden_only c.args.config.now c.args.base.now c.in-Some.constant.now
    c.copy.result c.in-Some.ensures c.copy.ensures

pub returns-in-None-clause-camelized : goal.returns-in-None-clause-camelized
returns-in-None-clause-camelized c =
    plain_made c.args.config.now c.args.base.now c.camelized_base.result c.in-None.ensures c.camelized_base.ensures

pub returns-in-None-clause-only : goal.returns-in-None-clause-only
returns-in-None-clause-only c = plain_only c.args.config.now c.args.base.now c.camelized_base.result c.in-None.ensures
    c.camelized_base.ensures
