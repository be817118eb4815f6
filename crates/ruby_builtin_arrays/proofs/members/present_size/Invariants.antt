use Rattle.std.proofs.Common.{◌≡◌, take, min, map, ◌-◌, ◌^◌}
use Rattle.std.specs.List.{sum}
use Rattle.ruby_types.specs.Size.{size}
use Rattle.std.specs.List.{filter}
use Rattle.ruby_builtin_arrays.specs.Members as spec
use Rattle.ruby_builtin_arrays.proofs.members.present_size.Given as goal

abbrev pub invariant-loop-member : goal.invariant-loop-member
invariant-loop-member l =
    l.total ≡ min (sum (map size (filter spec.is_present (take l.member-index l.members)))) (2 ^ 64 - 1)
