use Rattle.std.proofs.Common.{◌==◌, sym, ap, ◌∙◌}
use Rattle.std.proofs.lemmas.Bool.{le-ltb}
use Rattle.std.proofs.lemmas.Nat.Bits.{bit_at_above}
use Rattle.share_lock.proofs.seat.has_bit.Goals as goal

pub returns-else-bit-lt8-clause-has : goal.returns-else-bit-lt8-clause-has
returns-else-bit-lt8-clause-has c =
    le-ltb c.args.bit 8 c.if-bit-lt8.false
    ∙ sym (ap (λ n. n == 1) (bit_at_above c.args.list 8 c.args.bit c.ranges.list.fits c.if-bit-lt8.false))
