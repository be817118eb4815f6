use Rattle.std.proofs.Common.{sym}
use Rattle.ruby_runs.specs.BuiltIns.{is_truthy}
use Rattle.ruby_machine_statements.proofs.Kept.{branch_else}
use Rattle.ruby_machine_statements.proofs.waiting.branched.Goals as goal

pub returns : goal.returns
returns c i =
    branch_else i c.args.nodes.now c.args.core.now c.first_branch.result c.first_branch.new.core
    (is_truthy c.args.value) c.args.taken c.args.arms c.args.other (sym c.if-is_truthy.ensures)
    (c.first_branch.ensures i)
