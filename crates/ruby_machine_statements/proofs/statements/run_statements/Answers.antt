use Rattle.ruby_machine_statements.proofs.Kept.{kept_body}
use Rattle.ruby_machine_statements.proofs.statements.run_statements.Goals as goal

pub returns-in-Some : goal.returns-in-Some
returns-in-Some g c =
    let i = g.P.Lookups.index c.args.program.now in
    kept_body i (g.P.Lookups.entries c.args.program.now) c.args.core.now c.run_statement.result
    c.run_statement.new.core c.args.at c.in-Some.statement c.args.last
    (rw c.nodes-nodes.ensures at c.in-Some.ensures) (rw c.nodes-nodes.ensures at (c.run_statement.ensures i))
