use Rattle.std.proofs.Common.{◌≡◌, List, subst}
use Rattle.program_places.specs.Paths.{Path}
use Rattle.program_constants.specs.Constants.{first_place}
use Rattle.program_constants.proofs.TableLaws.{first_found}
use Rattle.program_constants.proofs.table.ConstantTable.first.Goals as goal

pub returns : goal.returns
returns c =
    subst (λ (cs : List Path). c.file_of.result ≡ first_place c.args.path.now cs) c.self.view_is
    (first_found c.self.inside.constants.items c.self.inside.table c.self.invariant c.args.path.now c.file_of.result
    c.file_of.ensures.found c.file_of.ensures.none)
