use Rattle.std.proofs.Common.{length, false, ◌-◌, ◌≡◌, ◌≤◌, drop}
use Rattle.ruby_token.specs.Lengths.{lines_len, reach}
use Rattle.ruby_token.proofs.scan.lines_len.Given as goal

abbrev pub invariant-bytes : goal.invariant-bytes
invariant-bytes l = record {
  within : l.n ≤ length l.bytes;
  last_within : l.last ≤ l.n;
  exact : reach l.n l.last (lines_len l.in_bracket l.comment (drop l.n l.bytes)) ≡ lines_len l.in_bracket false l.bytes;
}

abbrev pub decreases-bytes : goal.decreases-bytes
decreases-bytes l = length l.bytes - l.n
