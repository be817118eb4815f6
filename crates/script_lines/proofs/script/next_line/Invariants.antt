use Rattle.std.proofs.Common.{◌≡◌, ◌≤◌, ◌+◌, ◌^◌}
use Rattle.app_config.specs.Loops.Left.{parts_left, size_left}
use Rattle.script_lines.specs.Reading.{turn_from}
use Rattle.script_lines.proofs.script.next_line.Given as goal

abbrev pub invariant-lines : goal.invariant-lines
invariant-lines l = record {
  turn : turn_from l.number (parts_left 10 l.rest) ≡ turn_from l.before (parts_left 10 l.text);
  size : l.number + size_left l.rest ≤ 2 ^ 32;
}

abbrev pub decreases-lines : goal.decreases-lines
decreases-lines l = size_left l.rest
