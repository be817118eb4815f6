-- How many arguments a row takes, and of which kind. A row is a function of its arguments, `List Value → Answer`; these
-- words make one from what it does with arguments of the right kind: `takes_int (λ m. ..)`.
use Rattle.std.specs.Prelude.{ℕ, ℤ, List, [], ◌∷◌, codes}
use Rattle.ruby_types.specs.declared.value.Value.{Value, Value-F, out-Value}
use Rattle.ruby_types.specs.declared.value.Value.TheOpen as layer
use Rattle.ruby_builtin_base.specs.Answers.{Answer, WrongArgument, WrongCount}

-- A row without arguments: any argument is one too many.
abbrev pub takes_none : Answer → List Value → Answer
takes_none answer [] = answer
takes_none answer args = WrongCount (codes "0")

-- one argument of any kind
abbrev pub takes_value : (Value → Answer) → List Value → Answer
takes_value row (x ∷ []) = row x
takes_value row args = WrongCount (codes "1")

-- what is done with a number, and with nothing else
abbrev pub with_int : (ℤ → Answer) → Value-F Value → Answer
with_int row (layer.Int number) = row number
with_int row other = WrongArgument

-- A row of one Str; an argument of another kind is wrong.
abbrev pub with_text : (List ℕ → Answer) → Value-F Value → Answer
with_text row (layer.Str text) = row text
with_text row other = WrongArgument

-- A row of one Array; an argument of another kind is wrong.
abbrev pub with_array : (List Value → Answer) → Value-F Value → Answer
with_array row (layer.Array items) = row items
with_array row other = WrongArgument

-- A row of one Hash; an argument of another kind is wrong.
abbrev pub with_hash : (List (Value × Value) → Answer) → Value-F Value → Answer
with_hash row (layer.Hash pairs) = row pairs
with_hash row other = WrongArgument

-- one argument of a kind: an Integer, a String, an Array, a Hash
abbrev pub takes_int : (ℤ → Answer) → List Value → Answer
takes_int row = takes_value (λ x. with_int row (out-Value x))

-- A row that takes exactly one Str.
abbrev pub takes_text : (List ℕ → Answer) → List Value → Answer
takes_text row = takes_value (λ x. with_text row (out-Value x))

-- A row that takes exactly one Array.
abbrev pub takes_array : (List Value → Answer) → List Value → Answer
takes_array row = takes_value (λ x. with_array row (out-Value x))

-- A row that takes exactly one Hash.
abbrev pub takes_hash : (List (Value × Value) → Answer) → List Value → Answer
takes_hash row = takes_value (λ x. with_hash row (out-Value x))

-- two numbers
abbrev pub takes_two_ints : (ℤ × ℤ → Answer) → List Value → Answer
takes_two_ints row (x ∷ y ∷ []) = with_int (λ m. with_int (λ n. row (m, n)) (out-Value y)) (out-Value x)
takes_two_ints row args = WrongCount (codes "2")
