-- The value of a number, and its range.
use Rattle.std.specs.Prelude.{ℕ, ◌+◌, ◌-◌, ◌*◌, ◌^◌, Bool, true, List, [], ◌∷◌, ◌==◌, if◌then◌else◌, nat_le}

-- a value with one decimal digit more; an underscore is passed over
abbrev pub next_value : ℕ → ℕ → ℕ
next_value n b = if b == 95 then n else 10 * n + (b - 48)

-- digits read on from this value
abbrev pub magnitude_from : ℕ → List ℕ → ℕ
magnitude_from n [] = n
magnitude_from n (b ∷ bs) = magnitude_from (next_value n b) bs

-- the value of digits; an underscore counts for nothing: of `1_000` it is 1000
abbrev pub magnitude : List ℕ → ℕ
magnitude digits = magnitude_from 0 digits

-- a number from -2^63 to 2^63 - 1: digits, and perhaps a `-` before them
abbrev pub is_in_range : List ℕ → Bool
is_in_range [] = true
is_in_range (b ∷ bs) = if b == 45 then nat_le (magnitude bs) (2 ^ 63) else nat_le (magnitude (b ∷ bs)) (2 ^ 63 - 1)
