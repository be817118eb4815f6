use Rattle.ruby_machine_values.proofs.Beginning.{begun, not_begun}
use Rattle.ruby_machine_expressions.specs.Arguments.{own_args_left}
use Rattle.ruby_machine_expressions.proofs.arguments.begin_own_call.Goals as goal

pub returns-then-spend : goal.returns-then-spend
returns-then-spend g c =
    let i = g.P.Lookups.index c.args.program.now in
    let k = g.P.Lookups.entries c.args.program.now in
    begun i k (own_args_left i k c.args.name.now c.args.first) c.args.core.now c.spend.new.self c.own_call.result
    c.own_call.new.core c.if-spend.ensures c.own_call.ensures

pub returns-else-spend : goal.returns-else-spend
returns-else-spend g c =
    let i = g.P.Lookups.index c.args.program.now in
    let k = g.P.Lookups.entries c.args.program.now in
    not_begun i k (own_args_left i k c.args.name.now c.args.first) c.args.core.now c.spend.new.self c.spent.result
    c.if-spend.ensures c.spent.ensures
