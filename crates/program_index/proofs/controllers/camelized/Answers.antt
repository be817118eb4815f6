use Rattle.program_index.proofs.ControllerLaws.{camelized_told}
use Rattle.program_index.proofs.controllers.camelized.Goals as goal

pub returns : goal.returns
returns c = camelized_told c.args.config.now c.args.base.now c.camelize.result c.camelize.ensures.only
