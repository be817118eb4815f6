-- The rows of Array (the Ruby documentation of Array and Enumerable), in the order of their names' bytes.
use Rattle.std.specs.Prelude.{ℕ, ℤ, pos, negsuc, int_lt, unsigned_abs, if◌then◌else◌, nat_eq, length, map, reverse}
use Rattle.std.specs.Prelude.{take, drop, filter, Option, Some, None, List, [], ◌∷◌, ◌++◌, codes, option_map}
use Rattle.std.specs.List.{list_any}
use Rattle.ruby_types.specs.declared.value.Value.{Value}
use Rattle.ruby_types.specs.declared.request.ErrorClass.TheVariants as class
use Rattle.ruby_types.specs.declared.value.Value.TheVariants.{Nil, Int, Str, Array}
use Rattle.ruby_builtin_base.specs.Answers.{Answer, Gives, Raises, WrongArgument}
use Rattle.ruby_builtin_base.specs.Arguments.{takes_none, takes_value, takes_int, takes_text, takes_array}
use Rattle.ruby_builtin_base.specs.Printed.{to_s}
use Rattle.ruby_builtin_base.specs.Results.{integer, count, truth}
use Rattle.ruby_builtin_arrays.specs.Members.{or_nil, member_at, includes, is_present, is_array, joined_by}
use Rattle.ruby_builtin_arrays.specs.Numbers.{numbers, total, least, greatest}

-- what is done with a number of members, which isn't below 0
abbrev pub sized : ℤ → Answer → Answer
sized n answer = if int_lt n (pos 0) then Raises class.Argument (codes "negative size") else answer

-- A row of one Int that is a number of members; one below 0 raises ArgumentError.
abbrev pub takes_size : (ℕ → Answer) → List Value → Answer
takes_size row = takes_int (λ n. sized n (row (unsigned_abs n)))

-- what comes of members that are all numbers
abbrev pub of_numbers : {X : Type 0} → (X → Answer) → Option X → Answer
of_numbers answer None = WrongArgument
of_numbers answer (Some x) = answer x

-- A number, or nil where there is none.
abbrev pub int_or_nil : Option ℤ → Value
int_or_nil None = Nil
int_or_nil (Some number) = Int number

-- the members' texts joined, where none of them is an array
abbrev pub joined_members : List Value → List ℕ → Answer
joined_members members between =
    if list_any is_array members then WrongArgument else Gives (Str (joined_by between (map to_s members)))

-- A row is what members come to with arguments.
abbrev pub array_rows : List (List ℕ × (List Value → List Value → Answer))
array_rows =
    (codes "+", λ xs. takes_array (λ ys. Gives (Array (xs ++ ys))))
    ∷ (codes "[]", λ xs. takes_int (λ place. Gives (or_nil (member_at xs place))))
    ∷ (codes "compact", λ xs. takes_none (Gives (Array (filter is_present xs))))
    ∷ (codes "drop", λ xs. takes_size (λ n. Gives (Array (drop n xs))))
    ∷ (codes "empty?", λ xs. takes_none (truth (nat_eq (length xs) 0)))
    ∷ (codes "first", λ xs. takes_none (Gives (or_nil (member_at xs (pos 0)))))
    ∷ (codes "include?", λ xs. takes_value (λ value. truth (includes xs value)))
    ∷ (codes "join", λ xs. takes_text (λ between. joined_members xs between))
    ∷ (codes "last", λ xs. takes_none (Gives (or_nil (member_at xs (negsuc 0)))))
    ∷ (codes "length", λ xs. takes_none (count (length xs)))
    ∷ (codes "max", λ xs. takes_none (of_numbers (λ n. Gives (int_or_nil n)) (option_map greatest (numbers xs))))
    ∷ (codes "min", λ xs. takes_none (of_numbers (λ n. Gives (int_or_nil n)) (option_map least (numbers xs))))
    ∷ (codes "reverse", λ xs. takes_none (Gives (Array (reverse xs))))
    ∷ (codes "size", λ xs. takes_none (count (length xs)))
    ∷ (codes "sum", λ xs. takes_none (of_numbers integer (option_map total (numbers xs))))
    ∷ (codes "take", λ xs. takes_size (λ n. Gives (Array (take n xs))))
    ∷ []
