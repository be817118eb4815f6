-- Classes of bytes, and looks at the next byte.
use Rattle.std.specs.Prelude.{◌≡◌, ℕ, Bool, true, false, List, [], ◌∷◌, ◌==◌, not, ◌||◌}
use Rattle.std.specs.Char.{is_ascii_lowercase, is_ascii_alphanumeric}

-- each byte passes
abbrev pub Every : (ℕ → Bool) → List ℕ → Type 0
Every p [] = Unit {0}
Every p (b ∷ bs) = (p b ≡ true) × Every p bs

-- a small letter or `_`
abbrev pub is_lower : ℕ → Bool
is_lower b = is_ascii_lowercase b || (b == 95)

-- a letter, a digit or `_`
abbrev pub is_word : ℕ → Bool
is_word b = is_ascii_alphanumeric b || (b == 95)

-- space, TAB or CR
abbrev pub is_white : ℕ → Bool
is_white b = (b == 32) || (b == 9) || (b == 13)

-- not LF: what a comment may have
abbrev pub not_lf : ℕ → Bool
not_lf b = not (b == 10)

-- LF or `;`
abbrev pub is_line_end : ℕ → Bool
is_line_end b = (b == 10) || (b == 59)

-- `"` or `'`
abbrev pub is_quote : ℕ → Bool
is_quote b = (b == 34) || (b == 39)

-- `?` or `!`
abbrev pub is_suffix : ℕ → Bool
is_suffix b = (b == 63) || (b == 33)

-- what a backslash escapes in double quotes: n t r e `"` `\` `#`
abbrev pub is_escape : ℕ → Bool
is_escape b = (b == 110) || (b == 116) || (b == 114) || (b == 101) || (b == 34) || (b == 92) || (b == 35)

-- what a backslash escapes in single quotes: `'` `\`
abbrev pub is_single_escape : ℕ → Bool
is_single_escape b = (b == 39) || (b == 92)

-- the next byte passes
abbrev pub next_passes : (ℕ → Bool) → List ℕ → Bool
next_passes p [] = false
next_passes p (b ∷ bs) = p b

-- the next byte is this one
abbrev pub next_is : ℕ → List ℕ → Bool
next_is b bs = next_passes (λ c. c == b) bs
