use Rattle.std.proofs.Common.{◌∙◌, ap}
use Rattle.program_constants.specs.Constants.{has_site_among}
use Rattle.program_faults.specs.Read.{used_all}
use Rattle.program_faults.proofs.SiteLaws.{site_among}
use Rattle.program_faults.proofs.files.UsedFiles.has_site.Goals as goal

pub returns : goal.returns
returns c =
    c.has_site.ensures ∙ ap (λ cs. has_site_among cs c.args.path.now) c.args.self.now.constants_are
    ∙ site_among (used_all c.args.self.now.files.now) c.args.path.now
