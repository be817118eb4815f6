-- The rows of Integer (the Ruby documentation of Integer and Comparable), in the order of their names' bytes.
use Rattle.std.specs.Prelude.{ℕ, ℤ, pos, ◌+ℤ◌, ◌-ℤ◌, ◌*ℤ◌, neg_ℤ, unsigned_abs, ◌%◌, ◌==◌, ◌&&◌, int_le, int_lt}
use Rattle.std.specs.Prelude.{if◌then◌else◌}
use Rattle.std.specs.Prelude.{Option, Some, None, List, [], ◌∷◌, codes}
use Rattle.std.specs.Ordering.{int_eq}
use Rattle.ruby_types.specs.declared.value.Value.{Value}
use Rattle.ruby_types.specs.declared.request.ErrorClass.TheVariants as class
use Rattle.ruby_types.specs.declared.value.Value.TheVariants.{Int, Array}
use Rattle.ruby_builtin_base.specs.Answers.{Answer, Gives, Raises}
use Rattle.ruby_builtin_base.specs.Arguments.{takes_none, takes_int, takes_two_ints}
use Rattle.ruby_builtin_base.specs.Results.{fitted, whole, integer, truth}
use Rattle.ruby_builtin_numbers.specs.Division.{floor_div, floor_rem}

-- what is done with a divisor, which isn't 0
abbrev pub divided : ℤ → Answer → Answer
divided m answer = if int_eq m (pos 0) then Raises class.ZeroDivision (codes "divided by 0") else answer

-- A row of one Int that isn't zero; zero raises ZeroDivisionError.
abbrev pub takes_divisor : (ℤ → Answer) → List Value → Answer
takes_divisor row = takes_int (λ m. divided m (row m))

-- the quotient and what is left, as an array of two numbers
abbrev pub both : Option ℤ → Option ℤ → Answer
both (Some quotient) (Some rest) = Gives (Array (Int quotient ∷ Int rest ∷ []))
both quotient rest = whole None

-- from the least to the greatest of two bounds
abbrev pub clamped : ℤ → ℤ → ℤ → Answer
clamped low high n =
    if int_lt high low then Raises class.Argument (codes "min above max")
    else Gives (Int (if int_lt n low then low else (if int_lt high n then high else n)))

-- A row is what a number comes to with arguments.
abbrev pub int_rows : List (List ℕ × (ℤ → List Value → Answer))
int_rows =
    (codes "%", λ n. takes_divisor (λ m. integer (floor_rem n m)))
    ∷ (codes "*", λ n. takes_int (λ m. integer (n *ℤ m)))
    ∷ (codes "+", λ n. takes_int (λ m. integer (n +ℤ m)))
    ∷ (codes "-", λ n. takes_int (λ m. integer (n -ℤ m)))
    ∷ (codes "-@", λ n. takes_none (integer (neg_ℤ n)))
    ∷ (codes "/", λ n. takes_divisor (λ m. integer (floor_div n m)))
    ∷ (codes "<", λ n. takes_int (λ m. truth (int_lt n m)))
    ∷ (codes "<=", λ n. takes_int (λ m. truth (int_le n m)))
    ∷ (codes ">", λ n. takes_int (λ m. truth (int_lt m n)))
    ∷ (codes ">=", λ n. takes_int (λ m. truth (int_le m n)))
    ∷ (codes "abs", λ n. takes_none (integer (pos (unsigned_abs n))))
    ∷ (codes "between?", λ n. takes_two_ints (λ (low, high). truth (int_le low n && int_le n high)))
    ∷ (codes "clamp", λ n. takes_two_ints (λ (low, high). clamped low high n))
    ∷ (codes "divmod", λ n. takes_divisor (λ m. both (fitted (floor_div n m)) (fitted (floor_rem n m))))
    ∷ (codes "even?", λ n. takes_none (truth (unsigned_abs n % 2 == 0)))
    ∷ (codes "odd?", λ n. takes_none (truth (unsigned_abs n % 2 == 1)))
    ∷ (codes "pred", λ n. takes_none (integer (n -ℤ pos 1)))
    ∷ (codes "succ", λ n. takes_none (integer (n +ℤ pos 1)))
    ∷ (codes "to_i", λ n. takes_none (Gives (Int n)))
    ∷ (codes "zero?", λ n. takes_none (truth (int_eq n (pos 0))))
    ∷ []
