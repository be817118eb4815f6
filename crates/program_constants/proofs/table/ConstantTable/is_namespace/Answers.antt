use Rattle.std.proofs.Common.{◌≡◌, ◌∙◌, List, subst}
use Rattle.program_places.specs.Paths.{Path}
use Rattle.program_constants.specs.Constants.{is_namespace_among}
use Rattle.program_constants.proofs.TableLaws.{namespace_told}
use Rattle.program_constants.proofs.table.ConstantTable.is_namespace.Goals as goal

pub returns : goal.returns
returns c =
    subst (λ (cs : List Path). c.has_inside.result ≡ is_namespace_among cs c.args.path.now) c.self.view_is
    (c.has_inside.ensures ∙ namespace_told c.self.inside.constants.items c.self.inside.table c.self.invariant
    c.args.path.now c.site.result c.requires c.site.ensures.found c.site.ensures.none)
