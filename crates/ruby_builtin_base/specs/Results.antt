-- The numbers and truths that rows give. Numbers have 64 bits.
use Rattle.std.specs.Prelude.{ℕ, ℤ, pos, negsuc, ◌^◌, ◌-◌, Bool, ◌&&◌, int_le, int_lt, if◌then◌else◌, codes}
use Rattle.std.specs.Prelude.{Option, Some, None}
use Rattle.ruby_types.specs.declared.value.Value.TheVariants.{True, False, Int}
use Rattle.ruby_types.specs.declared.request.ErrorClass.TheVariants as class
use Rattle.ruby_builtin_base.specs.Answers.{Answer, Gives, Raises}

-- the number, where it is one of 64 bits
abbrev pub fitted : ℤ → Option ℤ
fitted n = if int_le (negsuc (2 ^ 63 - 1)) n && int_lt n (pos (2 ^ 63)) then Some n else None

-- a number of 64 bits, or the error of any other
abbrev pub whole : Option ℤ → Answer
whole (Some n) = Gives (Int n)
whole None = Raises class.Range (codes "integer out of range")

-- A number, or a RangeError where it is out of 64 bits.
abbrev pub integer : ℤ → Answer
integer n = whole (fitted n)

-- how many there are of something
abbrev pub count : ℕ → Answer
count n = integer (pos n)

-- true or false.
abbrev pub truth : Bool → Answer
truth b = Gives (if b then True else False)
