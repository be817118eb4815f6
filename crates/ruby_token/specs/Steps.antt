-- What the lexer finds at the front of the bytes.
use Rattle.std.specs.Prelude.{ℕ, ◌+◌, Bool, false, List, [], ◌∷◌, Option, Some, None, if◌then◌else◌, ◌==◌, not, ◌&&◌}
use Rattle.std.specs.Prelude.{drop, nat_lt, nat_eq, length, ◌<◌, ◌≤◌}
use Rattle.std.specs.List.{prefix_len, starts_with}
use Rattle.std.specs.Char.{is_ascii_digit, is_ascii_uppercase}
use Rattle.ruby_token.specs.declared.token.Op.{Op}
use Rattle.ruby_token.specs.declared.token.TokenKind.TheVariants as k
use Rattle.ruby_token.specs.declared.opens.Quote.{Quote}
use Rattle.ruby_token.specs.declared.opens.Quote.TheVariants as q
use Rattle.ruby_token.specs.declared.opens.Open.{Open}
use Rattle.ruby_token.specs.declared.lexeme.Lexeme.{Lexeme}
use Rattle.ruby_token.specs.declared.lexeme.Lexeme.TheVariants as l
use Rattle.ruby_token.specs.declared.state.State.{State}
use Rattle.ruby_token.specs.Bytes.{is_word, is_lower, is_white, not_lf, is_line_end, is_quote, next_is}
use Rattle.ruby_token.specs.Opens.{text_at, in_inside}
use Rattle.ruby_token.specs.Operators.{operators}
use Rattle.ruby_token.specs.State.{ends_value, in_brackets, drops}
use Rattle.ruby_token.specs.Lexemes.{is_close_brace}
use Rattle.ruby_token.specs.Lengths.{name_len, digits_len, lines_len, piece_len, single_len}

-- the first row whose text the bytes begin with, and its length
abbrev pub first_in : List (List ℕ × Op) → List ℕ → Option (Op × ℕ)
first_in [] bs = None
first_in (r ∷ rs) bs = if starts_with nat_eq bs r.0 then Some (r.1, length r.0) else first_in rs bs

unfoldable pub operator_at : List ℕ → Option (Op × ℕ)
operator_at bs = first_in operators bs

-- ---- in a text

-- where no piece begins
abbrev pub double_mark : List ℕ → Lexeme
double_mark [] = l.Nothing
double_mark (b ∷ bs) = if b == 34 then l.Token k.TextClose 1 else
    (if (b == 35) && next_is 123 bs then l.Token k.InsideOpen 2 else l.Nothing)

-- where no piece begins in single quotes: the closing quote
abbrev pub single_mark : List ℕ → Lexeme
single_mark bs = if next_is 39 bs then l.Token k.TextClose 1 else l.Nothing

-- in double quotes: a piece if there is one, else the closing quote or `#{`
abbrev pub double_lexeme : List ℕ → Lexeme
double_lexeme bs = if nat_lt 0 (piece_len bs) then l.Token k.TextPiece (piece_len bs) else double_mark bs

-- in single quotes: a piece if there is one, else the closing quote
abbrev pub single_lexeme : List ℕ → Lexeme
single_lexeme bs = if nat_lt 0 (single_len bs) then l.Token k.TextPiece (single_len bs) else single_mark bs

-- ---- in code

-- a colon that isn't the first of two
abbrev pub colon_at : List ℕ → Bool
colon_at bs = next_is 58 bs && not (next_is 58 (drop 1 bs))

-- a small letter, and these bytes after it
abbrev pub word_lexeme : List ℕ → Lexeme
word_lexeme bs = if colon_at (drop (name_len bs) bs) then l.Token k.Label (1 + name_len bs + 1) else l.Token k.Name
    (1 + name_len bs)

-- a sign's length, a digit, and these bytes after it
abbrev pub int_lexeme : ℕ → ℕ → List ℕ → Lexeme
int_lexeme sign b bs = if b == 48 then l.Token k.Int (sign + 1) else l.Token k.Int (sign + 1 + digits_len bs)

-- the operator that was found; a `}` in an inside part without an open brace ends that part
abbrev pub operator_by : List Open → Option (Op × ℕ) → Lexeme
operator_by opens None = l.Nothing
operator_by opens (Some x) = if is_close_brace x.0 && in_inside opens then l.Token k.InsideClose x.1 else l.Token
    (k.Op x.0) x.1

-- the operator at the front of these bytes, if there is one
abbrev pub operator_lexeme : List Open → List ℕ → Lexeme
operator_lexeme opens bs = operator_by opens (operator_at bs)

-- a `-`, and these bytes after it
abbrev pub minus_lexeme : List Open → List ℕ → Lexeme
minus_lexeme opens [] = operator_lexeme opens (45 ∷ [])
minus_lexeme opens (b ∷ bs) = if is_ascii_digit b then int_lexeme 1 b bs else operator_lexeme opens (45 ∷ b ∷ bs)

-- a `@`, and these bytes after it
abbrev pub at_lexeme : List Open → List ℕ → Lexeme
at_lexeme opens [] = operator_lexeme opens (64 ∷ [])
at_lexeme opens (b ∷ bs) = if is_lower b then l.Token k.Ivar (2 + prefix_len is_word bs) else operator_lexeme opens
    (64 ∷ b ∷ bs)

-- a `:` with no `:` before it, and these bytes after it
abbrev pub colon_lexeme : List Open → List ℕ → Lexeme
colon_lexeme opens [] = operator_lexeme opens (58 ∷ [])
colon_lexeme opens (b ∷ bs) =
    if is_lower b then l.Token k.Sym (2 + name_len bs)
    else (if is_ascii_uppercase b then l.Token k.Sym (2 + prefix_len is_word bs)
    else operator_lexeme opens (58 ∷ b ∷ bs))

-- a line's end, and these bytes after it
abbrev pub line_lexeme : State → ℕ → List ℕ → Lexeme
line_lexeme s b bs = if drops s b then l.Gap 1 else l.Token k.Line (1 + lines_len (in_brackets s) false bs)

-- where no word, number, white, comment, line or text begins
abbrev pub mark_lexeme : State → ℕ → List ℕ → Lexeme
mark_lexeme s b bs =
    if (b == 45) && not (ends_value s.after) then minus_lexeme s.opens bs
    else (if b == 64 then at_lexeme s.opens bs
    else (if (b == 58) && not (s.before == 58) then colon_lexeme s.opens bs
    else operator_lexeme s.opens (b ∷ bs)))

-- where no word and no number begins
abbrev pub space_lexeme : State → ℕ → List ℕ → Lexeme
space_lexeme s b bs =
    if is_white b then l.Gap (1 + prefix_len is_white bs)
    else (if b == 35 then l.Gap (1 + prefix_len not_lf bs)
    else (if is_line_end b then line_lexeme s b bs
    else (if is_quote b then l.Token k.TextOpen 1
    else mark_lexeme s b bs)))

-- in code, by the first byte: a name or label, a constant, a number, or what begins with no letter or digit
abbrev pub code_lexeme : State → ℕ → List ℕ → Lexeme
code_lexeme s b bs =
    if is_lower b then word_lexeme bs
    else (if is_ascii_uppercase b then l.Token k.Const (1 + prefix_len is_word bs)
    else (if is_ascii_digit b then int_lexeme 0 b bs
    else space_lexeme s b bs))

-- the lexeme at these bytes, by the text that the place stands in
abbrev pub lexeme_in : Option Quote → State → ℕ → List ℕ → Lexeme
lexeme_in None s b bs = code_lexeme s b bs
lexeme_in (Some q.Double) s b bs = double_lexeme (b ∷ bs)
lexeme_in (Some q.Single) s b bs = single_lexeme (b ∷ bs)

unfoldable pub lexeme : State → List ℕ → Lexeme
lexeme s [] = l.Nothing
lexeme s (b ∷ bs) = lexeme_in (text_at s.opens) s b bs

-- ---- how long it is

-- it has a byte, and no more than there are
abbrev pub Within : Lexeme → List ℕ → Type 0
Within (l.Gap n) bs = (0 < n) × (n ≤ length bs)
Within (l.Token k n) bs = (0 < n) × (n ≤ length bs)
Within l.Nothing bs = Unit {0}

-- a token of so many bytes
abbrev pub IsToken : Lexeme → (ℕ → Type 0) → Type 0
IsToken (l.Token k n) p = p n
IsToken (l.Gap n) p = ⊥
IsToken l.Nothing p = ⊥

-- a token that has a byte, and no more than these and the one before them
abbrev pub WithinMore : Lexeme → List ℕ → Type 0
WithinMore l bs = IsToken l (λ n. (0 < n) × (n ≤ 1 + length bs))
