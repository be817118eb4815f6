-- How pairs come into a hash (the Ruby documentation of Hash#[]= and Hash#merge): a repeated key keeps its first place
-- and takes the last value. `{a: 1, b: 2, a: 3}` is `{a: 3, b: 2}`.
use Rattle.std.specs.Prelude.{if◌then◌else◌, List, [], ◌∷◌}
use Rattle.ruby_types.specs.Same.{same}
use Rattle.ruby_types.specs.declared.value.Value.{Value}

-- a pair put among others: in place of the value of the first with its key, or behind them
abbrev pub put : List (Value × Value) → Value × Value → List (Value × Value)
put [] pair = pair ∷ []
put (first ∷ others) pair =
    if same first.0 pair.0 then (first.0, pair.1) ∷ others else first ∷ put others pair

-- pairs with others put among them, one after another
abbrev pub merged : List (Value × Value) → List (Value × Value) → List (Value × Value)
merged pairs [] = pairs
merged pairs (pair ∷ others) = merged (put pairs pair) others
