use Rattle.ruby_machine_statements.proofs.Kept.{branch_go}
use Rattle.ruby_machine_statements.proofs.statements.first_branch.Goals as goal

pub returns-in-Some : goal.returns-in-Some
returns-in-Some c i =
    branch_go i c.args.nodes.now c.args.core.now c.push_eval.result c.push_eval.new.self c.args.arms c.in-Some.test
    c.in-Some.taken c.in-Some.rest c.args.other c.in-Some.ensures (c.push_eval.ensures i c.args.nodes.now)
