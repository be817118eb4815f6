use Rattle.std.proofs.Common.{Some, sym, subst}
use Rattle.outside.specs.Tree.{AgreesOnStamps}
use Rattle.outside.specs.MemTree.{TreeState}
use Rattle.outside.proofs.mem_tree.MemTree.give_stamps.Goals as goal

pub returns-in_err-files-clause-agrees : goal.returns-in_err-files-clause-agrees
returns-in_err-files-clause-agrees c = subst (λ (t : TreeState). AgreesOnStamps (Some t.held) (Some t.given))
    (sym c.share_watched.ensures.same) c.share_watched.ensures.agrees

pub returns-in_err-stamps-clause-agrees : goal.returns-in_err-stamps-clause-agrees
returns-in_err-stamps-clause-agrees c = subst (λ (t : TreeState). AgreesOnStamps (Some t.held) (Some t.given))
    (sym c.share_watched.ensures.same) c.share_watched.ensures.agrees
