use Rattle.std.proofs.Common.{length, ◌-◌, ◌≡◌, ◌≤◌, drop, ◌+◌}
use Rattle.ruby_token.specs.Lengths.{piece_len, piece_from}
use Rattle.ruby_token.proofs.scan.piece_len.Given as goal

abbrev pub invariant-bytes : goal.invariant-bytes
invariant-bytes l = record {
  within : l.n ≤ length l.bytes;
  exact : l.n + piece_from l.escaped (drop l.n l.bytes) ≡ piece_len l.bytes;
}

abbrev pub decreases-bytes : goal.decreases-bytes
decreases-bytes l = length l.bytes - l.n
