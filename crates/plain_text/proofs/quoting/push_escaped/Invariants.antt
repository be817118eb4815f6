use Rattle.std.proofs.Common.{◌≡◌, ◌++◌, take}
use Rattle.std.specs.List.{flat_map}
use Rattle.plain_text.specs.Quoting as spec
use Rattle.plain_text.proofs.quoting.push_escaped.Given as goal

abbrev pub invariant-loop-byte : goal.invariant-loop-byte
invariant-loop-byte l =
    l.shown.items ≡ l.initial.shown.items ++ flat_map (spec.escaped_by l.escapes) (take l.byte-index l.bytes)
