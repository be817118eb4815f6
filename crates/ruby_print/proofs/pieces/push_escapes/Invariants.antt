use Rattle.std.proofs.Common.{◌≡◌, ◌++◌, take}
use Rattle.std.specs.List.{flat_map}
use Rattle.ruby_print.specs.Pieces.{escaped}
use Rattle.ruby_print.proofs.pieces.push_escapes.Given as goal

abbrev pub invariant-bytes : goal.invariant-bytes
invariant-bytes l = l.written.items ≡ l.initial.written.items ++ flat_map escaped (take l.byte-index l.bytes)
