-- The parts of texts (the Ruby documentation of String#strip, String#include?, String#[] and String#capitalize).
use Rattle.std.specs.Prelude.{ℕ, ℤ, pos, ◌-◌, unsigned_abs, Bool, ◌||◌, ◌==◌, nat_eq, nat_le, ◌&&◌, int_lt}
use Rattle.std.specs.Prelude.{if◌then◌else◌, List, [], ◌∷◌, map, reverse, slice_get, Option}
use Rattle.std.specs.List.{starts_with}
use Rattle.std.specs.Char.{to_ascii_uppercase, to_ascii_lowercase}

-- space, TAB, LF, VT, FF and CR
abbrev pub is_white : ℕ → Bool
is_white byte = byte == 32 || nat_le 9 byte && nat_le byte 13

-- what stands from the first byte on that isn't white
abbrev pub without_leading_white : List ℕ → List ℕ
without_leading_white [] = []
without_leading_white (byte ∷ bytes) = if is_white byte then without_leading_white bytes else byte ∷ bytes

-- The text without the white bytes at its end.
abbrev pub without_trailing_white : List ℕ → List ℕ
without_trailing_white text = reverse (without_leading_white (reverse text))

-- "\t a b\n" is "a b"
abbrev pub stripped : List ℕ → List ℕ
stripped text = without_trailing_white (without_leading_white text)

-- The first byte is raised where it is an ASCII letter, and all others fall: "éA" is "éa", and "aBC" is "Abc".
abbrev pub capitalized : List ℕ → List ℕ
capitalized [] = []
capitalized (first ∷ others) = to_ascii_uppercase first ∷ map to_ascii_lowercase others

-- whether a part stands in a text, at its beginning or further on
abbrev pub has_part : List ℕ → List ℕ → Bool
has_part [] part = starts_with nat_eq [] part
has_part (byte ∷ bytes) part = starts_with nat_eq (byte ∷ bytes) part || has_part bytes part

-- The member at a place, of which 0 is the first, -1 the last and -2 the one before it; there is none outside.
abbrev pub counted : {X : Type 0} → List X → ℤ → Option X
counted members n =
    if int_lt n (pos 0) then slice_get (reverse members) (unsigned_abs n - 1) else slice_get members (unsigned_abs n)
