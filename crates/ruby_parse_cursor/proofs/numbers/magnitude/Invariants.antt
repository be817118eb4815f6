use Rattle.std.proofs.Common.{◌≡◌, drop}
use Rattle.ruby_token.specs.Number.{magnitude_from, magnitude}
use Rattle.ruby_parse_cursor.proofs.numbers.magnitude.Given as goal

abbrev pub invariant-digits : goal.invariant-digits
invariant-digits l = magnitude_from l.value (drop l.digit-index l.digits) ≡ magnitude l.digits
