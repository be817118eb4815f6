use Rattle.std.proofs.Common.{MatchBool, sym, subst}
use Rattle.eager_order.specs.EagerOrder.{IsBelowRoot}
use Rattle.eager_plan.specs.Plan.{IsSkipped}
use Rattle.eager_plan.proofs.MarkLaws.{skipped_as}
use Rattle.eager_plan.proofs.skipped.is_skipped.Goals as goal

pub returns : goal.returns
returns c =
    let roots = c.args.roots.now in
    let patterns = c.args.patterns.now in
    let below = subst (λ p. IsBelowRoot roots p) (sym c.path_at-path.ensures) c.requires.below in
    subst (λ p. MatchBool c.is_marked.result (IsSkipped roots patterns p) (¬ IsSkipped roots patterns p))
    c.path_at-path.ensures
    (skipped_as patterns c.root_above.result.now c.path_at-path.result.now roots c.root_above.ensures.longest below
    c.is_marked.result c.is_marked.ensures)
