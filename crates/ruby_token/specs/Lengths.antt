-- How many bytes of a kind stand at the front: what the lexer's scans give.
use Rattle.std.specs.Prelude.{ℕ, zero, suc, ◌+◌, Bool, false, List, [], ◌∷◌, if◌then◌else◌, ◌==◌, not, ◌&&◌, ◌||◌, drop}
use Rattle.std.specs.List.{prefix_len}
use Rattle.std.specs.Char.{is_ascii_digit}
use Rattle.ruby_token.specs.Bytes.{is_word, not_lf, is_suffix, is_escape, next_is, next_passes}
use Rattle.ruby_token.specs.Lexemes.{ends_line, is_between}

-- one `?` or `!`, unless `=` comes next
abbrev pub suffix_len : List ℕ → ℕ
suffix_len [] = 0
suffix_len (c ∷ cs) = if is_suffix c && not (next_is 61 cs) then 1 else 0

-- a name's letters, digits and `_`, and its `?` or `!`: of `a?=b` 1, of `a? b` 2
abbrev pub name_len : List ℕ → ℕ
name_len bs = prefix_len is_word bs + suffix_len (drop (prefix_len is_word bs) bs)

-- digits, and an underscore only before a digit
abbrev pub digits_len : List ℕ → ℕ
digits_len [] = 0
digits_len (b ∷ bs) = if is_ascii_digit b || ((b == 95) && next_passes is_ascii_digit bs) then 1 + digits_len bs else 0

-- Line ends with white and comments between them, up to the last line end. The flags say that a bracket is open, and
-- that
-- the place stands in a comment.
abbrev pub in_comment : Bool → ℕ → Bool
in_comment comment b = comment && not_lf b

-- a run of line ends may go on over this byte: a line end, white, a comment's `#` or what stands in a comment
abbrev pub goes_on : Bool → Bool → ℕ → Bool
goes_on bracket comment b = in_comment comment b || (ends_line bracket b || (is_between bracket b || (b == 35)))

-- this byte is a line end of the run, and stands in no comment
abbrev pub ends_here : Bool → Bool → ℕ → Bool
ends_here bracket comment b = not (in_comment comment b) && ends_line bracket b

-- behind this byte the place stands in a comment
abbrev pub comments : Bool → ℕ → Bool
comments comment b = in_comment comment b || (b == 35)

-- one byte more, unless no line end follows
abbrev pub one_more : ℕ → ℕ
one_more zero = zero
one_more (suc n) = suc (suc n)

-- the length of the run of line ends at the front, up to the last of them: of `; # c`, LF, space, `b` 6
abbrev pub lines_len : Bool → Bool → List ℕ → ℕ
lines_len bracket comment [] = 0
lines_len bracket comment (b ∷ bs) =
    if goes_on bracket comment b
    then (if ends_here bracket comment b then suc (lines_len bracket (comments comment b) bs) else one_more
    (lines_len bracket (comments comment b) bs))
    else 0

-- the length of a run whose last line end is at `last`, where `more` bytes of it come from n on
abbrev pub reach : ℕ → ℕ → ℕ → ℕ
reach n last zero = last
reach n last (suc more) = n + suc more

-- in double quotes: the closing quote, an inside part, or a wrong escape
abbrev pub piece_ends : ℕ → List ℕ → Bool
piece_ends b bs = (b == 34) || (((b == 35) && next_is 123 bs) || ((b == 92) && not (next_passes is_escape bs)))

-- plain bytes and escapes; the flag says that a backslash stands before
abbrev pub piece_from : Bool → List ℕ → ℕ
piece_from escaped [] = 0
piece_from escaped (b ∷ bs) = if not escaped && piece_ends b bs then 0 else suc
    (piece_from (not escaped && (b == 92)) bs)

-- the plain bytes and escapes at the front of a text in double quotes
abbrev pub piece_len : List ℕ → ℕ
piece_len bs = piece_from false bs

-- the same in single quotes
abbrev pub single_from : Bool → List ℕ → ℕ
single_from escaped [] = 0
single_from escaped (b ∷ bs) = if not escaped && (b == 39) then 0 else suc (single_from (not escaped && (b == 92)) bs)

-- the plain bytes and escapes at the front of a text in single quotes
abbrev pub single_len : List ℕ → ℕ
single_len bs = single_from false bs
