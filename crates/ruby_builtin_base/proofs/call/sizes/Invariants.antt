use Rattle.std.proofs.Common.{◌≡◌, take, min, map, ◌-◌, ◌^◌}
use Rattle.std.specs.List.{sum}
use Rattle.ruby_types.specs.Size.{size}
use Rattle.ruby_builtin_base.proofs.call.sizes.Given as goal

abbrev pub invariant-loop-value : goal.invariant-loop-value
invariant-loop-value l = l.total ≡ min (sum (map size (take l.value-index l.values))) (2 ^ 64 - 1)
