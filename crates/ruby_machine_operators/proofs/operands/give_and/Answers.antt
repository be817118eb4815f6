use Rattle.std.proofs.Common.{sym, ◌∙◌}
use Rattle.ruby_machine_operators.proofs.Choices.{and_goes, and_ends}
use Rattle.ruby_machine_operators.proofs.operands.give_and.Goals as goal

pub returns-then-is_truthy : goal.returns-then-is_truthy
returns-then-is_truthy c i k m = and_goes i k m c.args.left c.args.right (sym c.is_truthy.ensures ∙ c.if-is_truthy.true)

pub returns-else-is_truthy : goal.returns-else-is_truthy
returns-else-is_truthy c i k m =
    and_ends i k m c.args.left c.args.right (sym c.is_truthy.ensures ∙ c.if-is_truthy.false)
