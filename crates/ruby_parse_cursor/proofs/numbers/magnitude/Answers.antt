use Rattle.std.proofs.Common.{drop, ◌^◌}
use Rattle.ruby_token.specs.Number.{magnitude}
use Rattle.ruby_parse_cursor.proofs.Magnitude.{within}
use Rattle.ruby_parse_cursor.proofs.numbers.magnitude.Goals as goal

pub next_value-value-requires : goal.next_value-value-requires
next_value-value-requires c = within c.digits.value (magnitude c.args.digits.now) (2 ^ 63)
    (drop c.digits.digit-index c.args.digits.now) c.digits.invariant c.requires
