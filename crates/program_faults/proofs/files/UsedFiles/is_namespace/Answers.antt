use Rattle.std.proofs.Common.{◌∙◌, ap}
use Rattle.program_constants.specs.Constants.{is_namespace_among}
use Rattle.program_faults.specs.Read.{used_all}
use Rattle.program_faults.proofs.SiteLaws.{namespace_among}
use Rattle.program_faults.proofs.files.UsedFiles.is_namespace.Goals as goal

pub returns : goal.returns
returns c =
    c.is_namespace.ensures ∙ ap (λ cs. is_namespace_among cs c.args.path.now) c.args.self.now.constants_are
    ∙ namespace_among (used_all c.args.self.now.files.now) c.args.path.now
