-- What the methods of Array make of members that are all numbers (the Ruby documentation of Array#sum, #min and #max).
use Rattle.std.specs.Prelude.{ℤ, pos, ◌+ℤ◌, int_lt, Option, Some, None, List, [], ◌∷◌}
use Rattle.std.specs.List.{best_of}
use Rattle.ruby_types.specs.declared.value.Value.{Value, Value-F, out-Value}
use Rattle.ruby_types.specs.declared.value.Value.TheOpen as layer

-- a number before others, where all are numbers
abbrev pub before : Value-F Value → Option (List ℤ) → Option (List ℤ)
before (layer.Int number) (Some others) = Some (number ∷ others)
before member others = None

-- the numbers that the members are, where each member is a number
abbrev pub numbers : List Value → Option (List ℤ)
numbers [] = Some []
numbers (member ∷ members) = before (out-Value member) (numbers members)

-- the whole sum, whatever its parts are
abbrev pub total : List ℤ → ℤ
total [] = pos 0
total (number ∷ others) = number +ℤ total others

-- The least of some numbers, if there is one.
abbrev pub least : List ℤ → Option ℤ
least [] = None
least (number ∷ others) = Some (best_of int_lt number others)

-- The greatest of some numbers, if there is one.
abbrev pub greatest : List ℤ → Option ℤ
greatest [] = None
greatest (number ∷ others) = Some (best_of (λ m n. int_lt n m) number others)
