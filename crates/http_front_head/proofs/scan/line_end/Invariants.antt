use Rattle.std.proofs.Common.{length, ◌-◌, ◌≡◌, ◌≤◌, ◌+◌, drop}
use Rattle.http_front_head.specs.Lines.{feeds, lines_end}
use Rattle.http_front_head.proofs.scan.line_end.Given as goal

abbrev pub invariant-loop-left : goal.invariant-loop-left
invariant-loop-left l = record {
  within : l.at ≤ length l.bytes;
  place : l.from + lines_end l.lines (drop l.from l.bytes) ≡ l.at + lines_end l.left (drop l.at l.bytes);
  count : feeds (drop l.from l.bytes) + l.left ≡ l.lines + feeds (drop l.at l.bytes);
}

abbrev pub decreases-loop-left : goal.decreases-loop-left
decreases-loop-left l = length l.bytes - l.at
