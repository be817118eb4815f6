use Rattle.std.proofs.Common.{length, ◌-◌, ◌≡◌, ◌≤◌, ℕ, ◌+◌, drop}
use Rattle.http_front_head.specs.Lines.{line_count, head_end}
use Rattle.http_front_head.proofs.scan.blank_end.Given as goal

abbrev pub invariant-loop-at : goal.invariant-loop-at
invariant-loop-at l = record {
  within : l.at ≤ length l.bytes;
  place : (n : ℕ) → head_end n l.bytes ≡ l.at + head_end n (drop l.at l.bytes);
  count : line_count l.bytes ≡ line_count (drop l.at l.bytes);
}

abbrev pub decreases-loop-at : goal.decreases-loop-at
decreases-loop-at l = length l.bytes - l.at
