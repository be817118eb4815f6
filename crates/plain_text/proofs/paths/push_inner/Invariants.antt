use Rattle.std.proofs.Common.{◌≡◌, ◌++◌, ◌∷◌, take}
use Rattle.std.specs.List.{flat_map}
use Rattle.plain_text.proofs.paths.push_inner.Given as goal

abbrev pub invariant-loop-name : goal.invariant-loop-name
invariant-loop-name l = l.written.items ≡ l.initial.written.items ++ flat_map (λ name. 58 ∷ 58 ∷ name)
    (take l.name-index l.names)
