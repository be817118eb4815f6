use Rattle.std.proofs.Common.{◌≡◌, take, min, map, ◌-◌, ◌^◌}
use Rattle.std.specs.List.{sum}
use Rattle.ruby_types.specs.Size as spec
use Rattle.ruby_types.proofs.sizes.inner_size.Given as goal

abbrev pub invariant-loop-name : goal.invariant-loop-name
invariant-loop-name l = l.total ≡ min (sum (map spec.inner_size (take l.name-index l.names))) (2 ^ 64 - 1)
