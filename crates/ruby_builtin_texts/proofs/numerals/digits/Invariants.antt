use Rattle.std.proofs.Common.{◌≡◌, ◌-◌, ◌^◌, ◌≤◌, drop, min}
use Rattle.ruby_builtin_texts.specs.Numerals.{with_digits}
use Rattle.ruby_builtin_texts.proofs.numerals.digits.Given as goal

abbrev pub invariant-loop-byte : goal.invariant-loop-byte
invariant-loop-byte l = record {
  fits : l.number ≤ 2 ^ 64 - 1;
  so_far : min (with_digits l.number (drop l.byte-index l.bytes)) (2 ^ 64 - 1)
      ≡ min (with_digits 0 l.bytes) (2 ^ 64 - 1);
}
