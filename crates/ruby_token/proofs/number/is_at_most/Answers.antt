use Rattle.ruby_token.proofs.Magnitude.{stays_above}
use Rattle.ruby_token.proofs.number.is_at_most.Goals as goal

pub returns-then-value-limit : goal.returns-then-value-limit
returns-then-value-limit c = stays_above c.args.limit c.digits.value c.digits.digit-index _ c.args.digits.now
    c.digits-test.true (rw (← c.next_value-value.ensures) c.if-value-limit.true) c.digits.invariant.exact
