use Rattle.std.proofs.Common.{◌≡◌, ◌≤◌, ◌+◌, ◌++◌}
use Rattle.app_config.specs.Loops.Left.{parts_left, size_left}
use Rattle.script_lines.specs.Content.{contents, behind_contents, count_contents}
use Rattle.script_lines.proofs.content.read_content.Given as goal

abbrev pub invariant-lines : goal.invariant-lines
invariant-lines l = record {
  bytes : l.bytes.items ++ contents (parts_left 10 l.rest) ≡ contents (parts_left 10 l.text);
  behind : behind_contents (parts_left 10 l.rest) ≡ behind_contents (parts_left 10 l.text);
  count : l.count + count_contents (parts_left 10 l.rest) ≡ count_contents (parts_left 10 l.text);
  size : l.count + size_left l.rest ≤ size_left l.text;
}

abbrev pub decreases-lines : goal.decreases-lines
decreases-lines l = size_left l.rest
