use Rattle.std.proofs.Common.{◌+◌, arith}
use Rattle.ruby_machine_frames.specs.Rest.{load}
use Rattle.ruby_machine_frames.proofs.Steps.{turn_then_more}
use Rattle.ruby_machine_statements.specs.Arms.{if_of}
use Rattle.ruby_machine_statements.proofs.Kept.{if_kept}
use Rattle.ruby_machine_statements.proofs.statements.begin_if.Goals as goal

pub returns-in_ok-push : goal.returns-in_ok-push
returns-in_ok-push c i =
    let k = c.args.nodes.now in
    turn_then_more i k c.args.core.now c.spend.new.self c.first_branch.result c.first_branch.new.core
    (if_of i k c.args.arms c.args.other c.args.next) (load c.spend.new.self + 11) c.if-spend.ensures (omega arith)
    (if_kept i k c.spend.new.self c.push.new.self c.first_branch.result c.first_branch.new.core c.args.arms
    c.args.other c.args.next c.in_ok-push.field-0 c.in_ok-push.ensures (c.first_branch.ensures i))
