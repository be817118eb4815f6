-- What the methods of Array make of its members (the Ruby documentation of Array).
use Rattle.std.specs.Prelude.{ℕ, ℤ, pos, ◌-◌, int_lt, unsigned_abs, if◌then◌else◌, slice_get, reverse, length, ◌+◌}
use Rattle.std.specs.Prelude.{Bool, true, false, Option, Some, None, List, [], ◌∷◌, ◌++◌}
use Rattle.std.specs.List.{list_any}
use Rattle.ruby_types.specs.Same.{same}
use Rattle.ruby_types.specs.declared.value.Value.{Value, Value-F, out-Value}
use Rattle.ruby_types.specs.declared.value.Value.TheOpen as layer
use Rattle.ruby_types.specs.declared.value.Value.TheVariants.{Nil}
use Rattle.ruby_builtin_base.specs.Printed.{to_s}

-- a value, or nil where there is none
abbrev pub or_nil : Option Value → Value
or_nil None = Nil
or_nil (Some value) = value

-- The member at a place. A place below 0 counts from the end: in `[7, 8, 9]` the member at -1 is 9, and at 3 and at -4
-- there is none.
abbrev pub member_at : List Value → ℤ → Option Value
member_at members place =
    if int_lt place (pos 0) then slice_get (reverse members) (unsigned_abs place - 1)
    else slice_get members (unsigned_abs place)

-- a member is the same as this value
abbrev pub includes : List Value → Value → Bool
includes members value = list_any (λ member. same member value) members

-- Whether one level of a value isn't nil.
abbrev pub is_present_layer : Value-F Value → Bool
is_present_layer layer.Nil = false
is_present_layer other = true

-- a value that isn't nil
abbrev pub is_present : Value → Bool
is_present value = is_present_layer (out-Value value)

-- Whether one level of a value is an array.
abbrev pub is_array_layer : Value-F Value → Bool
is_array_layer (layer.Array members) = true
is_array_layer other = false

-- Whether a value is an array.
abbrev pub is_array : Value → Bool
is_array value = is_array_layer (out-Value value)

-- each of these texts with another before it
abbrev pub each_behind : List ℕ → List (List ℕ) → List ℕ
each_behind between [] = []
each_behind between (text ∷ texts) = between ++ (text ++ each_behind between texts)

-- the texts with another between them: "a", "b" and "c" with "-" between them are "a-b-c"
abbrev pub joined_by : List ℕ → List (List ℕ) → List ℕ
joined_by between [] = []
joined_by between (first ∷ others) = first ++ each_behind between others

-- how many bytes a member adds behind others
abbrev pub behind_size : List ℕ → Value → ℕ
behind_size between member = length between + length (to_s member)
