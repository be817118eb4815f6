-- What rows give stands where it does so for arguments of the right kind.
use Rattle.std.proofs.Common.{◌≡◌, ℕ, Bool, true, false, List, [], ◌∷◌, Option, Some, None, refl}
use Rattle.std.specs.Prelude.{ℤ, pos}
use Rattle.ruby_types.specs.declared.value.Value.{Value, Value-F, out-Value}
use Rattle.ruby_types.specs.declared.value.Value.TheOpen as layer
use Rattle.ruby_builtin_base.specs.Answers.{Answer}
use Rattle.ruby_builtin_base.specs.Arguments.{takes_none, takes_value, with_int, with_text, with_array, with_hash}
use Rattle.ruby_builtin_base.specs.Arguments.{takes_int, takes_text, takes_array, takes_hash, takes_two_ints}
use Rattle.ruby_builtin_base.specs.Results.{fitted, whole, integer, count, truth}
use Rattle.program_places.specs.Places.{Index}
use Rattle.program_places.specs.Tasks.{EachIs}
use Rattle.program_values.specs.Standing.{Stands, PairStands}
use Rattle.program_built_ins.specs.Rows.{AnswerStands, MethodStands}
use Rattle.program_values.proofs.Values.{boolean_stands, int_stands, items_stand, pairs_stand}

infixr 4 ◌and◌
-- a proof and those behind it
abbrev pub ◌and◌ : {A B : Type 0} → A → B → A × B
p and q = (p, q)

module _ (index : Index) where
  -- ---- arguments

  -- a row without arguments
  pub none_stands : (answer : Answer) → AnswerStands index answer → MethodStands index (takes_none answer)
  none_stands answer h [] each = h
  none_stands answer h (x ∷ args) each = tt

  -- a row of one argument of any kind
  pub value_stands : (row : Value → Answer) → ((x : Value) → Stands index x → AnswerStands index (row x)) →
      MethodStands index (takes_value row)
  value_stands row h [] each = tt
  value_stands row h (x ∷ []) each = h x each.0
  value_stands row h (x ∷ y ∷ args) each = tt

  with_int_stands : (row : ℤ → Answer) → ((n : ℤ) → AnswerStands index (row n)) → (x : Value-F Value) →
      AnswerStands index (with_int row x)
  with_int_stands row h (layer.Int n) = h n
  with_int_stands row h x = tt

  with_text_stands : (row : List ℕ → Answer) → ((text : List ℕ) → AnswerStands index (row text)) → (x : Value-F Value) →
      AnswerStands index (with_text row x)
  with_text_stands row h (layer.Str text) = h text
  with_text_stands row h x = tt

  with_array_stands : (row : List Value → Answer) →
      ((xs : List Value) → EachIs (Stands index) xs → AnswerStands index (row xs)) →
      (v : Value) (x : Value-F Value) → out-Value v ≡ x → Stands index v → AnswerStands index (with_array row x)
  with_array_stands row h v (layer.Array xs) is s = h xs (items_stand index v xs is s)
  with_array_stands row h v x is s = tt

  with_hash_stands : (row : List (Value × Value) → Answer) →
      ((ps : List (Value × Value)) → EachIs (PairStands index) ps → AnswerStands index (row ps)) →
      (v : Value) (x : Value-F Value) → out-Value v ≡ x → Stands index v → AnswerStands index (with_hash row x)
  with_hash_stands row h v (layer.Hash ps) is s = h ps (pairs_stand index v ps is s)
  with_hash_stands row h v x is s = tt

  -- a row of one Integer
  pub int_row_stands : (row : ℤ → Answer) → ((n : ℤ) → AnswerStands index (row n)) → MethodStands index (takes_int row)
  int_row_stands row h = value_stands (λ x. with_int row (out-Value x)) (λ x s. with_int_stands row h (out-Value x))

  -- a row of one String
  pub text_row_stands : (row : List ℕ → Answer) → ((text : List ℕ) → AnswerStands index (row text)) →
      MethodStands index (takes_text row)
  text_row_stands row h =
      value_stands (λ x. with_text row (out-Value x)) (λ x s. with_text_stands row h (out-Value x))

  -- a row of one Array
  pub array_row_stands : (row : List Value → Answer) →
      ((xs : List Value) → EachIs (Stands index) xs → AnswerStands index (row xs)) →
      MethodStands index (takes_array row)
  array_row_stands row h =
      value_stands (λ x. with_array row (out-Value x)) (λ x s. with_array_stands row h x (out-Value x) refl s)

  -- a row of one Hash
  pub hash_row_stands : (row : List (Value × Value) → Answer) →
      ((ps : List (Value × Value)) → EachIs (PairStands index) ps → AnswerStands index (row ps)) →
      MethodStands index (takes_hash row)
  hash_row_stands row h =
      value_stands (λ x. with_hash row (out-Value x)) (λ x s. with_hash_stands row h x (out-Value x) refl s)

  -- a row of two Integers
  pub two_ints_row_stands : (row : ℤ × ℤ → Answer) → ((p : ℤ × ℤ) → AnswerStands index (row p)) →
      MethodStands index (takes_two_ints row)
  two_ints_row_stands row h [] each = tt
  two_ints_row_stands row h (x ∷ []) each = tt
  two_ints_row_stands row h (x ∷ y ∷ []) each =
      with_int_stands (λ m. with_int (λ n. row (m, n)) (out-Value y))
      (λ m. with_int_stands (λ n. row (m, n)) (λ n. h (m, n)) (out-Value y)) (out-Value x)
  two_ints_row_stands row h (x ∷ y ∷ z ∷ args) each = tt

  -- ---- results

  -- a number, or an error where it doesn't fit
  pub whole_stands : (n : Option ℤ) → AnswerStands index (whole n)
  whole_stands None = tt
  whole_stands (Some n) = int_stands index n

  -- a number that may not fit
  pub integer_stands : (n : ℤ) → AnswerStands index (integer n)
  integer_stands n = whole_stands (fitted n)

  -- how many there are
  pub count_stands : (n : ℕ) → AnswerStands index (count n)
  count_stands n = integer_stands (pos n)

  -- true or false
  pub truth_stands : (b : Bool) → AnswerStands index (truth b)
  truth_stands true = boolean_stands index true
  truth_stands false = boolean_stands index false
