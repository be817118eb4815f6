use Rattle.ruby_machine_values.proofs.Beginning.{begun, not_begun}
use Rattle.ruby_machine_operators.specs.Constants.{name_left}
use Rattle.ruby_machine_operators.proofs.constants.begin_constant.Goals as goal

pub returns-then-spend : goal.returns-then-spend
returns-then-spend g c =
    let i = g.P.Lookups.index c.args.program.now in
    let k = g.P.Lookups.entries c.args.program.now in
    begun i k (name_left i k c.args.constant.now) c.args.core.now c.spend.new.self c.name_begun.result
    c.name_begun.new.core c.if-spend.ensures c.name_begun.ensures

pub returns-else-spend : goal.returns-else-spend
returns-else-spend g c =
    let i = g.P.Lookups.index c.args.program.now in
    let k = g.P.Lookups.entries c.args.program.now in
    not_begun i k (name_left i k c.args.constant.now) c.args.core.now c.spend.new.self c.spent.result
    c.if-spend.ensures c.spent.ensures
