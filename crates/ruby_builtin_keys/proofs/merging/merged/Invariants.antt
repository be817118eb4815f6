use Rattle.std.proofs.Common.{◌≡◌, take, drop}
use Rattle.ruby_builtin_keys.specs.Merging.{merged}
use Rattle.ruby_builtin_keys.proofs.merging.merged.Given as goal

abbrev pub invariant-loop-pair : goal.invariant-loop-pair
invariant-loop-pair l = l.all.pairs.items ≡ take l.pair-index l.pairs

abbrev pub invariant-loop-other : goal.invariant-loop-other
invariant-loop-other l = merged l.all.pairs.items (drop l.other-index l.others) ≡ merged l.pairs l.others
