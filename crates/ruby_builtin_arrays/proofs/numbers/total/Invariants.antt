use Rattle.std.proofs.Common.{◌≡◌, drop, ◌≤ℤ◌, neg_ℤ, pos, ◌*◌, ◌^◌}
use Rattle.std.specs.Prelude.{option_map}
use Rattle.ruby_builtin_arrays.specs.Numbers.{numbers, total}
use Rattle.ruby_builtin_arrays.proofs.NumberLaws.{more}
use Rattle.ruby_builtin_arrays.proofs.numbers.total.Given as goal

abbrev pub invariant-loop-member : goal.invariant-loop-member
invariant-loop-member l = record {
  so_far : more l.total (option_map total (numbers (drop l.member-index l.members)))
      ≡ option_map total (numbers l.members);
  low : neg_ℤ (pos (2 ^ 63 * l.member-index)) ≤ℤ l.total;
  high : l.total ≤ℤ pos (2 ^ 63 * l.member-index);
}
