-- What the methods of Hash find in its pairs (the Ruby documentation of Hash).
use Rattle.std.specs.Prelude.{if◌then◌else◌, Option, Some, None, List, [], ◌∷◌}
use Rattle.ruby_types.specs.Same.{same}
use Rattle.ruby_types.specs.declared.value.Value.{Value}
use Rattle.ruby_types.specs.declared.value.Value.TheVariants.{Array}

-- The value of the first pair that has this key. A hash that was handed in may have a key twice: in `{a: 1, a: 2}` it
-- is 1.
abbrev pub value_at : List (Value × Value) → Value → Option Value
value_at [] key = None
value_at (pair ∷ pairs) key = if same pair.0 key then Some pair.1 else value_at pairs key

-- a pair as an array of its key and its value
abbrev pub pair_array : Value × Value → Value
pair_array pair = Array (pair.0 ∷ pair.1 ∷ [])
