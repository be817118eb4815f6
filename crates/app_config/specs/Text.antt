-- The lines of a text and the words of a line.
use Rattle.std.specs.Prelude.{ℕ, ◌-◌, Bool, true, false, List, [], ◌∷◌, length, take, map, slice_index, ◌==◌}
use Rattle.std.specs.Prelude.{if◌then◌else◌}
use Rattle.std.specs.List.{slice_split, filter, after_first}

-- the parts of a text around each occurrence of a byte, one more than there are occurrences
abbrev pub split : ℕ → List ℕ → List (List ℕ)
split byte text = slice_split (λ b. b == byte) text

-- a line without the CR (13) that may end it
abbrev pub without_return : List ℕ → List ℕ
without_return line = if slice_index line (length line - 1) == 13 then take (length line - 1) line else line

-- the lines: LF (10) ends each of them but the last
abbrev pub lines : List ℕ → List (List ℕ)
lines text = map without_return (split 10 text)

-- a text has at least one byte
abbrev pub is_filled : List ℕ → Bool
is_filled [] = false
is_filled (_ ∷ _) = true

-- the words: what stands between spaces (32), one or several
abbrev pub words : List ℕ → List (List ℕ)
words line = filter is_filled (split 32 line)

-- the byte that stands between words, 32
abbrev pub is_space : ℕ → Bool
is_space byte = byte == 32

-- a text from its first byte on that isn't a space
abbrev pub behind_spaces : List ℕ → List ℕ
behind_spaces [] = []
behind_spaces (byte ∷ rest) = if is_space byte then behind_spaces rest else byte ∷ rest

-- what stands behind the first word of a text and the space that ends it
abbrev pub behind_word : List ℕ → List ℕ
behind_word text = after_first is_space (behind_spaces text)
