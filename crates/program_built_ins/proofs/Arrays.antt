-- The rows of Array give its members, arrays of them, numbers, texts and truth values.
use Rattle.std.proofs.Common.{◌≡◌, ℕ, Bool, true, false, List, Option, Some, None, take, drop, refl, map}
use Rattle.std.proofs.Common.{slice_get}
use Rattle.std.specs.Prelude.{ℤ, pos, negsuc, ◌-◌, ◌++◌, nat_eq, length, int_lt, unsigned_abs, if◌then◌else◌, codes}
use Rattle.std.specs.Prelude.{filter, option_map, reverse}
use Rattle.std.specs.List.{list_any}
use Rattle.ruby_types.specs.declared.value.Value.{Value}
use Rattle.ruby_types.specs.declared.value.Value.TheVariants.{Str, Array}
use Rattle.ruby_types.specs.declared.request.ErrorClass.TheVariants as class
use Rattle.ruby_builtin_base.specs.Answers.{Answer, Gives, Raises, WrongArgument}
use Rattle.ruby_builtin_arrays.specs.ArrayRows.{sized, takes_size, of_numbers, int_or_nil, joined_members, array_rows}
use Rattle.ruby_builtin_arrays.specs.Members.{or_nil, member_at, includes, is_array, is_present, joined_by}
use Rattle.ruby_builtin_arrays.specs.Numbers.{numbers, total, least, greatest}
use Rattle.ruby_builtin_base.specs.Results.{integer, count, truth}
use Rattle.ruby_builtin_base.specs.Printed.{to_s}
use Rattle.program_places.specs.Places.{Index}
use Rattle.program_places.specs.Tasks.{EachIs}
use Rattle.program_built_ins.specs.Rows.{AnswerStands, MethodStands, RowsStand}
use Rattle.program_values.specs.Standing.{Stands}
use Rattle.program_values.proofs.Values.{array_stands, each_of_both, int_stands, nil_stands, str_stands}
use Rattle.program_built_ins.proofs.Lists.{each_of_first, each_of_passing, each_of_rest, each_of_reversed, has_at}
use Rattle.program_built_ins.proofs.Arguments.{◌and◌, none_stands}
use Rattle.program_built_ins.proofs.Arguments.{value_stands, int_row_stands, text_row_stands, array_row_stands}
use Rattle.program_built_ins.proofs.Arguments.{integer_stands, count_stands, truth_stands}

module _ (index : Index) where
  -- a value that was found, or nil
  pub or_nil_stands : (o : Option Value) → ((v : Value) → o ≡ Some v → Stands index v) → Stands index (or_nil o)
  or_nil_stands None h = nil_stands index
  or_nil_stands (Some v) h = h v refl

  member_stands : (before : Bool) (xs : List Value) (i j : ℕ) (v : Value) → EachIs (Stands index) xs →
      (if before then slice_get (reverse xs) i else slice_get xs j) ≡ Some v → Stands index v
  member_stands true xs i j v each at =
      has_at (Stands index) (reverse xs) i v (each_of_reversed (Stands index) xs each) at
  member_stands false xs i j v each at = has_at (Stands index) xs j v each at

  member_or_nil_stands : (xs : List Value) (place : ℤ) → EachIs (Stands index) xs →
      Stands index (or_nil (member_at xs place))
  member_or_nil_stands xs place each = or_nil_stands (member_at xs place)
      (λ v. member_stands (int_lt place (pos 0)) xs (unsigned_abs place - 1) (unsigned_abs place) v each)

  sized_by : (negative : Bool) (answer : Answer) → AnswerStands index answer →
      AnswerStands index (if negative then Raises class.Argument (codes "negative size") else answer)
  sized_by true answer h = tt
  sized_by false answer h = h

  size_row_stands : (row : ℕ → Answer) → ((n : ℕ) → AnswerStands index (row n)) → MethodStands index (takes_size row)
  size_row_stands row h = int_row_stands index (λ n. sized n (row (unsigned_abs n)))
      (λ n. sized_by (int_lt n (pos 0)) (row (unsigned_abs n)) (h (unsigned_abs n)))

  of_numbers_stands : {X : Type 0} (row : X → Answer) → ((x : X) → AnswerStands index (row x)) → (o : Option X) →
      AnswerStands index (of_numbers row o)
  of_numbers_stands row h None = tt
  of_numbers_stands row h (Some x) = h x

  int_or_nil_stands : (o : Option ℤ) → Stands index (int_or_nil o)
  int_or_nil_stands None = nil_stands index
  int_or_nil_stands (Some n) = int_stands index n

  joined_here : (arrays : Bool) (bytes : List ℕ) →
      AnswerStands index (if arrays then WrongArgument else Gives (Str bytes))
  joined_here true bytes = tt
  joined_here false bytes = str_stands index bytes

  joined_stands : (xs : List Value) (between : List ℕ) → AnswerStands index (joined_members xs between)
  joined_stands xs between = joined_here (list_any is_array xs) (joined_by between (map to_s xs))

  -- what a row of Array gives stands, where the members do
  pub array_rows_stand : RowsStand index (EachIs (Stands index)) array_rows
  array_rows_stand =
      (λ xs h. array_row_stands index (λ ys. Gives (Array (xs ++ ys)))
      (λ ys k. array_stands index (xs ++ ys) (each_of_both (Stands index) xs ys h k)))
      and (λ xs h. int_row_stands index (λ place. Gives (or_nil (member_at xs place)))
      (λ place. member_or_nil_stands xs place h))
      and (λ xs h. none_stands index (Gives (Array (filter is_present xs)))
      (array_stands index (filter is_present xs) (each_of_passing (Stands index) is_present xs h)))
      and (λ xs h. size_row_stands (λ n. Gives (Array (drop n xs)))
      (λ n. array_stands index (drop n xs) (each_of_rest (Stands index) n xs h)))
      and (λ xs h. none_stands index (truth (nat_eq (length xs) 0)) (truth_stands index (nat_eq (length xs) 0)))
      and (λ xs h. none_stands index (Gives (or_nil (member_at xs (pos 0)))) (member_or_nil_stands xs (pos 0) h))
      and (λ xs h. value_stands index (λ value. truth (includes xs value))
      (λ value k. truth_stands index (includes xs value)))
      and (λ xs h. text_row_stands index (λ between. joined_members xs between) (λ between. joined_stands xs between))
      and (λ xs h. none_stands index (Gives (or_nil (member_at xs (negsuc 0))))
      (member_or_nil_stands xs (negsuc 0) h))
      and (λ xs h. none_stands index (count (length xs)) (count_stands index (length xs)))
      and (λ xs h. none_stands index (of_numbers (λ n. Gives (int_or_nil n)) (option_map greatest (numbers xs)))
      (of_numbers_stands (λ n. Gives (int_or_nil n)) int_or_nil_stands (option_map greatest (numbers xs))))
      and (λ xs h. none_stands index (of_numbers (λ n. Gives (int_or_nil n)) (option_map least (numbers xs)))
      (of_numbers_stands (λ n. Gives (int_or_nil n)) int_or_nil_stands (option_map least (numbers xs))))
      and (λ xs h. none_stands index (Gives (Array (reverse xs)))
      (array_stands index (reverse xs) (each_of_reversed (Stands index) xs h)))
      and (λ xs h. none_stands index (count (length xs)) (count_stands index (length xs)))
      and (λ xs h. none_stands index (of_numbers integer (option_map total (numbers xs)))
      (of_numbers_stands integer (integer_stands index) (option_map total (numbers xs))))
      and (λ xs h. size_row_stands (λ n. Gives (Array (take n xs)))
      (λ n. array_stands index (take n xs) (each_of_first (Stands index) n xs h)))
      and tt
