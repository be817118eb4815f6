-- The number with which a text begins (the Ruby documentation of String#to_i).
use Rattle.std.specs.Prelude.{ℕ, ℤ, pos, neg_ℤ, ◌+◌, ◌-◌, ◌*◌, ◌==◌, if◌then◌else◌, List, [], ◌∷◌}
use Rattle.std.specs.Char.{is_ascii_digit}
use Rattle.ruby_builtin_texts.specs.Parts.{without_leading_white}

-- a number to whose decimal digits the longest run of digits is added that stands here: with 12, "34x" is 1234
abbrev pub with_digits : ℕ → List ℕ → ℕ
with_digits n [] = n
with_digits n (byte ∷ bytes) = if is_ascii_digit byte then with_digits (10 * n + (byte - 48)) bytes else n

-- the longest run of digits behind an optional sign, 0 where there is none: "-12x" is -12, "+7" is 7, "x" is 0
abbrev pub signed_number : List ℕ → ℤ
signed_number [] = pos 0
signed_number (byte ∷ bytes) =
    if byte == 45 then neg_ℤ (pos (with_digits 0 bytes))
    else (if byte == 43 then pos (with_digits 0 bytes) else pos (with_digits 0 (byte ∷ bytes)))

-- the same behind white bytes
abbrev pub leading_number : List ℕ → ℤ
leading_number text = signed_number (without_leading_white text)
