-- The rows of Hash (the Ruby documentation of Hash), in the order of their names' bytes.
use Rattle.std.specs.Prelude.{ℕ, nat_eq, length, map, is_some, unwrap_or, Option, Some, None, List, [], ◌∷◌, ◌++◌}
use Rattle.std.specs.Prelude.{codes}
use Rattle.ruby_types.specs.declared.value.Value.{Value}
use Rattle.ruby_types.specs.declared.request.ErrorClass.TheVariants as class
use Rattle.ruby_types.specs.declared.value.Value.TheVariants.{Array, Hash}
use Rattle.ruby_builtin_base.specs.Answers.{Answer, Gives, Raises, WrongCount}
use Rattle.ruby_builtin_base.specs.Arguments.{takes_none, takes_value, takes_hash}
use Rattle.ruby_builtin_base.specs.Printed.{inspect}
use Rattle.ruby_builtin_base.specs.Results.{count, truth}
use Rattle.ruby_builtin_arrays.specs.Members.{or_nil}
use Rattle.ruby_builtin_keys.specs.Merging.{merged}
use Rattle.ruby_builtin_hashes.specs.Pairs.{value_at, pair_array}

-- a value that was looked for with a key
abbrev pub or_missing : Value → Option Value → Answer
or_missing key None = Raises class.Key (codes "key not found: " ++ inspect key)
or_missing key (Some value) = Gives value

-- the value of a key, and for a key that isn't there the second argument, or an error where there is none
abbrev pub fetched : List (Value × Value) → List Value → Answer
fetched pairs (key ∷ []) = or_missing key (value_at pairs key)
fetched pairs (key ∷ other ∷ []) = Gives (unwrap_or (value_at pairs key) other)
fetched pairs args = WrongCount (codes "1..2")

-- A row is what pairs come to with arguments.
abbrev pub hash_rows : List (List ℕ × (List (Value × Value) → List Value → Answer))
hash_rows =
    (codes "[]", λ pairs. takes_value (λ key. Gives (or_nil (value_at pairs key))))
    ∷ (codes "empty?", λ pairs. takes_none (truth (nat_eq (length pairs) 0)))
    ∷ (codes "fetch", λ pairs. fetched pairs)
    ∷ (codes "key?", λ pairs. takes_value (λ key. truth (is_some (value_at pairs key))))
    ∷ (codes "keys", λ pairs. takes_none (Gives (Array (map (λ pair. pair.0) pairs))))
    ∷ (codes "length", λ pairs. takes_none (count (length pairs)))
    ∷ (codes "merge", λ pairs. takes_hash (λ others. Gives (Hash (merged pairs others))))
    ∷ (codes "size", λ pairs. takes_none (count (length pairs)))
    ∷ (codes "to_a", λ pairs. takes_none (Gives (Array (map pair_array pairs))))
    ∷ (codes "values", λ pairs. takes_none (Gives (Array (map (λ pair. pair.1) pairs))))
    ∷ []
