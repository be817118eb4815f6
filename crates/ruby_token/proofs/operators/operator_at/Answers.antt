use Rattle.std.proofs.Common.{sym}
use Rattle.ruby_token.proofs.OperatorRows.{by_three, within_three}
use Rattle.ruby_token.proofs.operators.operator_at.Goals as goal

pub returns-clause-exact : goal.returns-clause-exact
returns-clause-exact c = rw (c.operator_of.ensures, c.byte_at.ensures, c.byte_at-2.ensures, c.byte_at-3.ensures)
    (sym (by_three c.args.bytes.now))

pub returns-clause-within : goal.returns-clause-within
returns-clause-within c = rw (c.operator_of.ensures, c.byte_at.ensures, c.byte_at-2.ensures, c.byte_at-3.ensures)
    (within_three c.args.bytes.now)
