use Rattle.std.proofs.Common.{◌≡◌, ◌∷◌, map, take}
use Rattle.std.specs.Char.{to_ascii_lowercase}
use Rattle.ruby_builtin_texts.proofs.letters.downcased_behind.Given as goal

abbrev pub invariant-loop-byte : goal.invariant-loop-byte
invariant-loop-byte l = l.letters.items ≡ l.fn.first ∷ map to_ascii_lowercase (take l.byte-index l.others)
