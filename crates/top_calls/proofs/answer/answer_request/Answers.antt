use Rattle.std.proofs.Common.{sym, subst}
use Rattle.std.proofs.lemmas.Bool.{both_ways}
use Rattle.tree_report.specs.Limits.{IsWithinLimits}
use Rattle.top_calls.specs.Output.{GetAnswer, too_large}
use Rattle.top_calls.proofs.Outputs.{answer_with}
use Rattle.top_calls.proofs.answer.answer_request.Goals as goal

pub returns-else-is_within_limits : goal.returns-else-is_within_limits
returns-else-is_within_limits c =
    answer_with
    (GetAnswer c.args.snapshot.now.files c.args.target.now.controller.now c.args.target.now.action.now) _ _
    c.not_built.result
    (too_large (λ within. both_ways c.is_within_limits.result c.if-is_within_limits.false
    (c.is_within_limits.ensures.1 (subst IsWithinLimits (sym c.as_slice.ensures) within))))
    c.not_built.ensures
