use Rattle.std.proofs.Common.{ap, ◌∙◌}
use Rattle.std.specs.Prelude.{not}
use Rattle.ruby_runs.specs.Bodies.{boolean}
use Rattle.ruby_machine_operators.proofs.Choices.{not_kept}
use Rattle.ruby_machine_operators.proofs.operands.give_not.Goals as goal

pub returns : goal.returns
returns c i k m =
    not_kept i k m c.args.operand c.boolean.result (c.boolean.ensures ∙ ap (λ b. boolean (not b)) c.is_truthy.ensures)
