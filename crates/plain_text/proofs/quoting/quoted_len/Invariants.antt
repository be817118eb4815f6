use Rattle.std.proofs.Common.{◌≡◌, ◌+◌, ◌-◌, ◌^◌, length, min, take}
use Rattle.std.specs.List.{flat_map}
use Rattle.plain_text.specs.Quoting.{escaped}
use Rattle.plain_text.proofs.quoting.quoted_len.Given as goal

abbrev pub invariant-loop-byte : goal.invariant-loop-byte
invariant-loop-byte l = l.total ≡ min (2 + length (flat_map escaped (take l.byte-index l.bytes))) (2 ^ 64 - 1)
