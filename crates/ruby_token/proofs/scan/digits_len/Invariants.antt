use Rattle.std.proofs.Common.{length, ◌-◌, ◌≡◌, ◌≤◌, drop, ◌+◌}
use Rattle.ruby_token.specs.Lengths.{digits_len}
use Rattle.ruby_token.proofs.scan.digits_len.Given as goal

abbrev pub invariant-digits : goal.invariant-digits
invariant-digits l = record {
  within : l.n ≤ length l.bytes;
  exact : l.n + digits_len (drop l.n l.bytes) ≡ digits_len l.bytes;
}

abbrev pub decreases-digits : goal.decreases-digits
decreases-digits l = length l.bytes - l.n
