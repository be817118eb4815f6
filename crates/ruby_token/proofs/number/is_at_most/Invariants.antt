use Rattle.std.proofs.Common.{◌≡◌, ◌≤◌, drop}
use Rattle.ruby_token.specs.Number.{magnitude_from, magnitude}
use Rattle.ruby_token.proofs.number.is_at_most.Given as goal

abbrev pub invariant-digits : goal.invariant-digits
invariant-digits l = record {
  within : l.value ≤ l.limit;
  exact : magnitude_from l.value (drop l.digit-index l.digits) ≡ magnitude l.digits;
}
