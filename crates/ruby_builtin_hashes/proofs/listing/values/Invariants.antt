use Rattle.std.proofs.Common.{◌≡◌, take, map}
use Rattle.ruby_types.specs.declared.value.Value.{Value}
use Rattle.ruby_builtin_hashes.proofs.listing.values.Given as goal

abbrev pub invariant-loop-pair : goal.invariant-loop-pair
invariant-loop-pair l = l.all.items ≡ map (λ (p : Value × Value). p.1) (take l.pair-index l.pairs)
