use Rattle.std.proofs.Common.{◌≡◌, ◌∙◌, List, subst}
use Rattle.program_places.specs.Paths.{Path}
use Rattle.program_constants.specs.Constants.{has_site_among}
use Rattle.program_constants.proofs.TableLaws.{site_told}
use Rattle.program_constants.proofs.table.ConstantTable.has_site.Goals as goal

pub returns : goal.returns
returns c =
    subst (λ (cs : List Path). c.is_some.result ≡ has_site_among cs c.args.path.now) c.self.view_is
    (c.is_some.ensures ∙ site_told c.self.inside.constants.items c.self.inside.table c.self.invariant c.args.path.now
    c.site.result c.site.ensures.found c.site.ensures.none)
