use Rattle.std.proofs.Common.{arith}
use Rattle.std.proofs.lemmas.Int.{ints}
use Rattle.ruby_builtin_arrays.proofs.NumberLaws.{total-more}
use Rattle.ruby_builtin_arrays.proofs.numbers.total.Goals as goal

pub loop-member-preserved : goal.loop-member-preserved
loop-member-preserved c = record {
  so_far = total-more c.args.members.now c.loop-member.member-index _ _ c.in-Int.number c.member-item.result _
      (omega arith) c.member-item.is c.in-Int.is
      c.loop-member.invariant.so_far (omega (arith, ints));
  low = omega (arith, ints);
  high = omega (arith, ints);
}
