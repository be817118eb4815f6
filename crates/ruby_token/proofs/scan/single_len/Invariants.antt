use Rattle.std.proofs.Common.{length, ◌-◌, ◌≡◌, ◌≤◌, drop, ◌+◌}
use Rattle.ruby_token.specs.Lengths.{single_len, single_from}
use Rattle.ruby_token.proofs.scan.single_len.Given as goal

abbrev pub invariant-bytes : goal.invariant-bytes
invariant-bytes l = record {
  within : l.n ≤ length l.bytes;
  exact : l.n + single_from l.escaped (drop l.n l.bytes) ≡ single_len l.bytes;
}

abbrev pub decreases-bytes : goal.decreases-bytes
decreases-bytes l = length l.bytes - l.n
