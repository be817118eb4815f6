-- Numbers in decimal digits.
use Rattle.std.specs.Prelude.{ℕ, Bool, false, List, [], ◌∷◌, Option, Some, None, ◌==◌, ◌&&◌, not, nat_le}
use Rattle.std.specs.Prelude.{if◌then◌else◌}
use Rattle.std.specs.Str.{all_ascii_digits}
use Rattle.std.specs.Str.Parse.{digits_value}

-- the word begins with `0` (48)
abbrev pub begins_with_zero : List ℕ → Bool
begins_with_zero [] = false
begins_with_zero (first ∷ _) = first == 48

-- the number, where it is from 1 to `most`
abbrev pub value_within : (most : ℕ) → ℕ → Option ℕ
value_within most n = if nat_le 1 n && nat_le n most then Some n else None

-- The number from 1 to `most` that a word is, in decimal digits without sign or leading 0. With at most 64, `7` is 7,
-- and `0`, `07`, `+7` and `65` are none.
abbrev pub number_of : (most : ℕ) → List ℕ → Option ℕ
number_of most word =
    if not (begins_with_zero word) && all_ascii_digits word then value_within most (digits_value 10 word) else None
