use Rattle.std.proofs.Common.{take}
use Rattle.tree_scan_roots.specs.Keys.{IsNumbering}
use Rattle.tree_scan_roots.specs.Roots.{named}
use Rattle.tree_scan_roots.proofs.numbers.line_numbers.Given as goal

abbrev pub invariant-lines : goal.invariant-lines
invariant-lines l = IsNumbering (named (take l.place l.lines)) l.numbers
