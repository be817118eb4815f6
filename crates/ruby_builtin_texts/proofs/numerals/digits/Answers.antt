use Rattle.std.proofs.Common.{◌-◌, ◌^◌, arith, sym, ◌∙◌}
use Rattle.ruby_builtin_texts.proofs.NumeralLaws.{digits_more}
use Rattle.ruby_builtin_texts.proofs.numerals.digits.Goals as goal

pub loop-byte-preserved : goal.loop-byte-preserved
loop-byte-preserved c = record {
  fits = omega arith;
  so_far = digits_more (2 ^ 64 - 1) c.loop-byte.number c.saturating_add-number.result c.loop-byte.byte-index
      c.args.bytes.now (omega arith) (sym c.is_ascii_digit.ensures.value ∙ c.if-not-is_ascii_digit.false) (omega arith)
      ∙ c.loop-byte.invariant.so_far;
}
