use Rattle.std.proofs.Common.{◌≡◌, take, min, map, ◌-◌, ◌^◌}
use Rattle.std.specs.List.{sum}
use Rattle.ruby_builtin_arrays.specs.Members as spec
use Rattle.ruby_builtin_arrays.proofs.joining.behind_len.Given as goal

abbrev pub invariant-loop-member : goal.invariant-loop-member
invariant-loop-member l = l.total ≡ min (sum (map (spec.behind_size l.between) (take l.member-index l.members)))
    (2 ^ 64 - 1)
