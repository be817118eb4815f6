use Rattle.std.proofs.Common.{◌≡◌, drop}
use Rattle.plain_text.specs.Quoting as spec
use Rattle.plain_text.proofs.quoting.push_byte.Given as goal

abbrev pub invariant-loop-escape : goal.invariant-loop-escape
invariant-loop-escape l = record {
  shown : l.shown.items ≡ l.initial.shown.items;
  passed : spec.escaped_by (drop l.escape-index l.escapes) l.byte ≡ spec.escaped_by l.escapes l.byte;
}
