use Rattle.std.proofs.Common.{arith}
use Rattle.plain_text.proofs.DigitLaws.{one_digit, digit_more, twenty_digits}
use Rattle.plain_text.proofs.number.digits_len.Goals as goal

pub overflow_add-count : goal.overflow_add-count
overflow_add-count c = omega (arith, twenty_digits c.args.n c.ranges.n.fits)

pub digits-preserved : goal.digits-preserved
digits-preserved c = omega (arith, digit_more c.digits.rest (omega arith) (omega arith))

pub returns-clause-value : goal.returns-clause-value
returns-clause-value c = omega (arith, one_digit c.digits.rest (omega arith))

pub returns-clause-few : goal.returns-clause-few
returns-clause-few c =
    omega (arith, one_digit c.digits.rest (omega arith), twenty_digits c.args.n c.ranges.n.fits)
