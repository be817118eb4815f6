-- The characters of a text. A character begins at the first byte of a text and at each byte that isn't from 128 to 191,
-- as in UTF-8 (RFC 3629, section 3), whether the text is UTF-8 or not: "aé" (97, 195, 169) has the two characters "a"
-- and "é".
use Rattle.std.specs.Prelude.{ℕ, ◌+◌, Bool, true, false, ◌&&◌, nat_le, if◌then◌else◌, List, [], ◌∷◌}

-- a byte that goes on with a character
abbrev pub is_inner : ℕ → Bool
is_inner byte = nat_le 128 byte && nat_le byte 191

-- Whether the next byte goes on a character: it is from 128 to 191.
abbrev pub begins_inside : List ℕ → Bool
begins_inside [] = false
begins_inside (byte ∷ bytes) = is_inner byte

-- a byte before other characters: the first of them goes on with it, or it stands alone
abbrev pub onto : ℕ → Bool → List (List ℕ) → List (List ℕ)
onto byte true (first ∷ others) = (byte ∷ first) ∷ others
onto byte inside others = (byte ∷ []) ∷ others

-- The characters of a text, in order.
abbrev pub characters : List ℕ → List (List ℕ)
characters [] = []
characters (byte ∷ bytes) = onto byte (begins_inside bytes) (characters bytes)

-- how many of these bytes begin a character behind another
abbrev pub beginnings : List ℕ → ℕ
beginnings [] = 0
beginnings (byte ∷ bytes) = (if is_inner byte then 0 else 1) + beginnings bytes
