use Rattle.std.proofs.Common.{◌≡◌, drop}
use Rattle.std.specs.Prelude.{option_map, int_lt}
use Rattle.ruby_builtin_arrays.specs.Numbers as spec
use Rattle.std.specs.List.{best_of}
use Rattle.ruby_builtin_arrays.proofs.numbers.greatest_from.Given as goal

abbrev pub invariant-loop-member : goal.invariant-loop-member
invariant-loop-member l =
    option_map (best_of (λ m n. int_lt n m) l.best) (spec.numbers (drop l.member-index l.members))
    ≡ option_map (best_of (λ m n. int_lt n m) l.number) (spec.numbers l.members)
