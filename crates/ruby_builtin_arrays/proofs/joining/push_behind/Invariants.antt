use Rattle.std.proofs.Common.{◌≡◌, drop, map, ◌++◌}
use Rattle.ruby_builtin_base.specs.Printed.{to_s}
use Rattle.ruby_builtin_arrays.specs.Members as spec
use Rattle.ruby_builtin_arrays.proofs.joining.push_behind.Given as goal

abbrev pub invariant-loop-member : goal.invariant-loop-member
invariant-loop-member l =
    l.out.items ++ spec.each_behind l.between (map to_s (drop l.member-index l.members))
    ≡ l.initial.out.items ++ spec.each_behind l.between (map to_s l.members)
