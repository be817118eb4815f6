use Rattle.std.proofs.Common.{◌≡◌, ◌+◌, length}
use Rattle.std.specs.Fmt.{decimal}
use Rattle.plain_text.proofs.number.digits_len.Given as goal

abbrev pub invariant-digits : goal.invariant-digits
invariant-digits l = l.count + length (decimal l.rest) ≡ 1 + length (decimal l.n)

abbrev pub decreases-digits : goal.decreases-digits
decreases-digits l = l.rest
