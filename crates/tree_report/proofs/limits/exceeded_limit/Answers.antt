use Rattle.std.proofs.Common.{◌≤◌, length, arith}
use Rattle.std.proofs.lemmas.Grind.{common_steps}
use Rattle.tree_report.specs.Limits.{total_bytes}
use Rattle.tree_report.specs.declared.limits.Limit.TheVariants.{Path}
use Rattle.tree_report.proofs.LimitLaws.{exceeded_is_over}
use Rattle.tree_report.proofs.limits.exceeded_limit.Goals as goal

pub returns-clause-within : goal.returns-clause-within
returns-clause-within c =
    let few : length c.args.files.now ≤ 4096 = grind (arith, common_steps) in
    let small : total_bytes c.args.files.now ≤ 4194304 = grind (arith, common_steps) in (
      λ e. cc,
      λ within. absurd
          (exceeded_is_over c.args.files.now Path c.in_ok-length.length (few, small, c.in_ok-length.ensures.found)
          within),
    )
