-- The rows of Integer give numbers, truth values, and arrays of two numbers.
use Rattle.std.proofs.Common.{Bool, true, false, [], ◌∷◌, Option, Some, None}
use Rattle.std.specs.Prelude.{ℤ, pos, ◌+ℤ◌, ◌-ℤ◌, ◌*ℤ◌, neg_ℤ, unsigned_abs, ◌%◌, ◌==◌, ◌&&◌, int_le, int_lt}
use Rattle.std.specs.Prelude.{if◌then◌else◌, codes}
use Rattle.std.specs.Ordering.{int_eq}
use Rattle.ruby_types.specs.declared.request.ErrorClass.TheVariants as class
use Rattle.ruby_types.specs.declared.value.Value.TheVariants.{Int}
use Rattle.ruby_builtin_base.specs.Answers.{Answer, Gives, Raises}
use Rattle.ruby_builtin_base.specs.Results.{fitted, integer, truth}
use Rattle.ruby_builtin_numbers.specs.Division.{floor_div, floor_rem}
use Rattle.ruby_builtin_numbers.specs.IntRows.{divided, takes_divisor, both, clamped, int_rows}
use Rattle.program_places.specs.Places.{Index}
use Rattle.program_built_ins.specs.Rows.{Anything, AnswerStands, MethodStands, RowsStand}
use Rattle.program_values.proofs.Values.{array_stands, int_stands}
use Rattle.program_built_ins.proofs.Arguments.{◌and◌, none_stands}
use Rattle.program_built_ins.proofs.Arguments.{int_row_stands, two_ints_row_stands, integer_stands, truth_stands}

module _ (index : Index) where
  divided_by : (zero : Bool) (answer : Answer) → AnswerStands index answer →
      AnswerStands index (if zero then Raises class.ZeroDivision (codes "divided by 0") else answer)
  divided_by true answer h = tt
  divided_by false answer h = h

  divisor_row_stands : (row : ℤ → Answer) → ((n : ℤ) → AnswerStands index (row n)) →
      MethodStands index (takes_divisor row)
  divisor_row_stands row h =
      int_row_stands index (λ m. divided m (row m)) (λ m. divided_by (int_eq m (pos 0)) (row m) (h m))

  both_stand : (quotient rest : Option ℤ) → AnswerStands index (both quotient rest)
  both_stand None None = tt
  both_stand None (Some rest) = tt
  both_stand (Some quotient) None = tt
  both_stand (Some quotient) (Some rest) =
      array_stands index (Int quotient ∷ Int rest ∷ []) (int_stands index quotient, (int_stands index rest, tt))

  clamped_by : (above : Bool) (n : ℤ) →
      AnswerStands index (if above then Raises class.Argument (codes "min above max") else Gives (Int n))
  clamped_by true n = tt
  clamped_by false n = int_stands index n

  clamped_stands : (low high n : ℤ) → AnswerStands index (clamped low high n)
  clamped_stands low high n = clamped_by (int_lt high low)
      (if int_lt n low then low else (if int_lt high n then high else n))

  -- what a row of Integer gives stands
  pub int_rows_stand : RowsStand index Anything int_rows
  int_rows_stand =
      (λ n h. divisor_row_stands (λ m. integer (floor_rem n m)) (λ m. integer_stands index (floor_rem n m)))
      and (λ n h. int_row_stands index (λ m. integer (n *ℤ m)) (λ m. integer_stands index (n *ℤ m)))
      and (λ n h. int_row_stands index (λ m. integer (n +ℤ m)) (λ m. integer_stands index (n +ℤ m)))
      and (λ n h. int_row_stands index (λ m. integer (n -ℤ m)) (λ m. integer_stands index (n -ℤ m)))
      and (λ n h. none_stands index (integer (neg_ℤ n)) (integer_stands index (neg_ℤ n)))
      and (λ n h. divisor_row_stands (λ m. integer (floor_div n m)) (λ m. integer_stands index (floor_div n m)))
      and (λ n h. int_row_stands index (λ m. truth (int_lt n m)) (λ m. truth_stands index (int_lt n m)))
      and (λ n h. int_row_stands index (λ m. truth (int_le n m)) (λ m. truth_stands index (int_le n m)))
      and (λ n h. int_row_stands index (λ m. truth (int_lt m n)) (λ m. truth_stands index (int_lt m n)))
      and (λ n h. int_row_stands index (λ m. truth (int_le m n)) (λ m. truth_stands index (int_le m n)))
      and (λ n h. none_stands index (integer (pos (unsigned_abs n))) (integer_stands index (pos (unsigned_abs n))))
      and (λ n h. two_ints_row_stands index (λ p. truth (int_le p.0 n && int_le n p.1))
      (λ p. truth_stands index (int_le p.0 n && int_le n p.1)))
      and (λ n h. two_ints_row_stands index (λ p. clamped p.0 p.1 n) (λ p. clamped_stands p.0 p.1 n))
      and (λ n h. divisor_row_stands (λ m. both (fitted (floor_div n m)) (fitted (floor_rem n m)))
      (λ m. both_stand (fitted (floor_div n m)) (fitted (floor_rem n m))))
      and (λ n h. none_stands index (truth (unsigned_abs n % 2 == 0)) (truth_stands index (unsigned_abs n % 2 == 0)))
      and (λ n h. none_stands index (truth (unsigned_abs n % 2 == 1)) (truth_stands index (unsigned_abs n % 2 == 1)))
      and (λ n h. none_stands index (integer (n -ℤ pos 1)) (integer_stands index (n -ℤ pos 1)))
      and (λ n h. none_stands index (integer (n +ℤ pos 1)) (integer_stands index (n +ℤ pos 1)))
      and (λ n h. none_stands index (Gives (Int n)) (int_stands index n))
      and (λ n h. none_stands index (truth (int_eq n (pos 0))) (truth_stands index (int_eq n (pos 0))))
      and tt
