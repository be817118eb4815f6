use Rattle.std.proofs.Common.{sym, ◌∙◌}
use Rattle.ruby_machine_operators.proofs.Choices.{choose_first}
use Rattle.ruby_machine_operators.proofs.operands.give_choose.Goals as goal

pub returns-then-is_truthy : goal.returns-then-is_truthy
returns-then-is_truthy c i k m =
    choose_first i k m c.args.condition c.args.taken c.args.other (sym c.is_truthy.ensures ∙ c.if-is_truthy.true)
