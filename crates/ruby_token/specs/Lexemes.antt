-- What a file's bytes may begin with: a rule for each kind of token, and for what is no token.
-- In `.. t r` the lexeme is t, and r stands behind it. No rule says how long a lexeme is: the longest is taken.
use Rattle.std.specs.Prelude.{◌≡◌, ℕ, Bool, true, false, List, [], ◌∷◌, ◌++◌, Option, Some, None, ◌==◌, ◌&&◌, ◌||◌, not}
use Rattle.std.specs.Char.{is_ascii_digit, is_ascii_uppercase}
use Rattle.ruby_token.specs.declared.token.Op.{Op}
use Rattle.ruby_token.specs.declared.token.Op.TheVariants as op
use Rattle.ruby_token.specs.declared.token.TokenKind.{TokenKind}
use Rattle.ruby_token.specs.declared.token.TokenKind.TheVariants as k
use Rattle.ruby_token.specs.declared.opens.Quote.{Quote}
use Rattle.ruby_token.specs.declared.opens.Quote.TheVariants as q
use Rattle.ruby_token.specs.declared.state.State.{State}
use Rattle.ruby_token.specs.Bytes.{Every, is_word, is_lower, is_white, not_lf, is_line_end, is_quote, is_suffix}
use Rattle.ruby_token.specs.Bytes.{is_escape, is_single_escape, next_is, next_passes}
use Rattle.ruby_token.specs.Operators.{operators}
use Rattle.ruby_token.specs.Opens.{text_at, in_inside}
use Rattle.ruby_token.specs.State.{in_brackets, drops, ends_value}

-- What stands behind a name's first letter: letters, digits and `_`; and then perhaps one `?` or `!`, unless `=`
-- follows.
pub data NameTail : List ℕ → List ℕ → Type 0 where
  plain : {t r : List ℕ} → Every is_word t → NameTail t r
  suffixed : {r : List ℕ} (t : List ℕ) (q : ℕ) → Every is_word t → is_suffix q ≡ true → next_is 61 r ≡ false →
      NameTail (t ++ q ∷ []) r

-- What stands behind a number's first digit: digits, with single underscores between them.
pub data Digits : List ℕ → Type 0 where
  no_more : Digits []
  digit : {b : ℕ} {t : List ℕ} → is_ascii_digit b ≡ true → Digits t → Digits (b ∷ t)
  underscore : {b : ℕ} {t : List ℕ} → is_ascii_digit b ≡ true → Digits t → Digits (95 ∷ b ∷ t)

-- A number without its sign: `0` alone, or digits that don't begin with 0.
pub data Number : List ℕ → Type 0 where
  zero_alone : Number (48 ∷ [])
  number : {b : ℕ} {t : List ℕ} → is_ascii_digit b ≡ true → (b == 48) ≡ false → Digits t → Number (b ∷ t)

-- Line ends in a row, with white and comments between them; the flag says that a bracket is open, where an LF counts
-- as white.
abbrev pub ends_line : Bool → ℕ → Bool
ends_line bracket b = (b == 59) || ((b == 10) && not bracket)

-- what may stand between two line ends of a run: white, and in brackets an LF
abbrev pub is_between : Bool → ℕ → Bool
is_between bracket b = is_white b || ((b == 10) && bracket)

pub data Ends (bracket : Bool) : List ℕ → Type 0 where
  last_end : {b : ℕ} → ends_line bracket b ≡ true → Ends bracket (b ∷ [])
  more_ends : {b : ℕ} {t : List ℕ} → ends_line bracket b ≡ true → Ends bracket t → Ends bracket (b ∷ t)
  white_before : {b : ℕ} {t : List ℕ} → is_between bracket b ≡ true → Ends bracket t → Ends bracket (b ∷ t)
  comment_before : {t : List ℕ} (c : List ℕ) → Every not_lf c → Ends bracket (10 ∷ t) →
      Ends bracket (35 ∷ (c ++ 10 ∷ t))

-- A row of a table.
pub data Row : List (List ℕ × Op) → List ℕ → Op → Type 0 where
  first_row : {t : List ℕ} {x : Op} {rs : List (List ℕ × Op)} → Row ((t, x) ∷ rs) t x
  later_row : {q : List ℕ × Op} {t : List ℕ} {x : Op} {rs : List (List ℕ × Op)} → Row rs t x → Row (q ∷ rs) t x

-- the operator is `}`, which may also end an inside part
abbrev pub is_close_brace : Op → Bool
is_close_brace op.CloseBrace = true
is_close_brace _ = false

-- A lexeme is a token of some kind, or a gap between tokens.
pub data What : Type 0 where
  gap : What
  token : TokenKind → What

-- In code.
pub data InCode : State → What → List ℕ → List ℕ → Type 0 where
  -- Between tokens: white, a comment up to its line's end, an LF that is dropped.
  white : {s : State} {b : ℕ} {t r : List ℕ} → is_white b ≡ true → Every is_white t → InCode s gap (b ∷ t) r
  comment : {s : State} {t r : List ℕ} → Every not_lf t → InCode s gap (35 ∷ t) r
  dropped : {s : State} {r : List ℕ} → drops s 10 ≡ true → InCode s gap (10 ∷ []) r
  -- A Line: one line end, or several in a row.
  line : {s : State} {b : ℕ} {r : List ℕ} → is_line_end b ≡ true → drops s b ≡ false →
      InCode s (token k.Line) (b ∷ []) r
  lines : {s : State} {b : ℕ} {t r : List ℕ} → is_line_end b ≡ true → drops s b ≡ false → Ends (in_brackets s) t →
      InCode s (token k.Line) (b ∷ t) r
  -- A Name begins with a small letter or `_`, a Const with a capital.
  name : {s : State} {b : ℕ} {t r : List ℕ} → is_lower b ≡ true → NameTail t r → InCode s (token k.Name) (b ∷ t) r
  constant : {s : State} {b : ℕ} {t r : List ℕ} → is_ascii_uppercase b ≡ true → Every is_word t →
      InCode s (token k.Const) (b ∷ t) r
  -- An Ivar: `@` and a name without suffix.
  ivar : {s : State} {b : ℕ} {t r : List ℕ} → is_lower b ≡ true → Every is_word t →
      InCode s (token k.Ivar) (64 ∷ b ∷ t) r
  -- A Label: a name and a `:` that isn't the first of `::`.
  label : {s : State} {b : ℕ} {t r : List ℕ} → is_lower b ≡ true → NameTail t (58 ∷ r) → next_is 58 r ≡ false →
      InCode s (token k.Label) (b ∷ (t ++ 58 ∷ [])) r
  -- A Sym: `:` and a name or a constant, where the byte before isn't `:`.
  symbol : {s : State} {b : ℕ} {t r : List ℕ} → (s.before == 58) ≡ false → is_lower b ≡ true → NameTail t r →
      InCode s (token k.Sym) (58 ∷ b ∷ t) r
  symbol_constant : {s : State} {b : ℕ} {t r : List ℕ} → (s.before == 58) ≡ false → is_ascii_uppercase b ≡ true →
      Every is_word t → InCode s (token k.Sym) (58 ∷ b ∷ t) r
  -- An Int: a number, with a `-` before it unless the token before ends a value.
  int : {s : State} {t r : List ℕ} → Number t → InCode s (token k.Int) t r
  negative : {s : State} {t r : List ℕ} → ends_value s.after ≡ false → Number t → InCode s (token k.Int) (45 ∷ t) r
  -- A quote opens a text.
  quote : {s : State} {b : ℕ} {r : List ℕ} → is_quote b ≡ true → InCode s (token k.TextOpen) (b ∷ []) r
  -- A `}` ends an inside part in which no brace is open; else it is an operator like the others.
  inside_close : {s : State} {r : List ℕ} → in_inside s.opens ≡ true → InCode s (token k.InsideClose) (125 ∷ []) r
  operator : {s : State} {t r : List ℕ} {x : Op} → Row operators t x → (is_close_brace x && in_inside s.opens)
      ≡ false → InCode s (token (k.Op x)) t r

-- The plain bytes and escapes of a text in double quotes; a `#` is plain unless `{` follows.
abbrev pub is_plain : ℕ → Bool
is_plain b = not ((b == 34) || ((b == 35) || (b == 92)))

pub data Plain : List ℕ → List ℕ → Type 0 where
  nothing : {r : List ℕ} → Plain [] r
  byte : {b : ℕ} {t r : List ℕ} → is_plain b ≡ true → Plain t r → Plain (b ∷ t) r
  hash : {t r : List ℕ} → next_is 123 (t ++ r) ≡ false → Plain t r → Plain (35 ∷ t) r
  escape : {e : ℕ} {t r : List ℕ} → is_escape e ≡ true → Plain t r → Plain (92 ∷ e ∷ t) r

-- The same in single quotes, where a backslash before another byte stands for itself.
pub data Single : List ℕ → List ℕ → Type 0 where
  nothing_single : {r : List ℕ} → Single [] r
  byte_single : {b : ℕ} {t r : List ℕ} → is_single_escape b ≡ false → Single t r → Single (b ∷ t) r
  escape_single : {e : ℕ} {t r : List ℕ} → is_single_escape e ≡ true → Single t r → Single (92 ∷ e ∷ t) r
  backslash : {t r : List ℕ} → next_passes is_single_escape (t ++ r) ≡ false → Single t r → Single (92 ∷ t) r

-- In a text: a piece of it, the closing quote, and in double quotes `#{`.
pub data InDouble : What → List ℕ → List ℕ → Type 0 where
  piece : {b : ℕ} {t r : List ℕ} → Plain (b ∷ t) r → InDouble (token k.TextPiece) (b ∷ t) r
  closing : {r : List ℕ} → InDouble (token k.TextClose) (34 ∷ []) r
  opening : {r : List ℕ} → InDouble (token k.InsideOpen) (35 ∷ 123 ∷ []) r

pub data InSingle : What → List ℕ → List ℕ → Type 0 where
  piece_single : {b : ℕ} {t r : List ℕ} → Single (b ∷ t) r → InSingle (token k.TextPiece) (b ∷ t) r
  closing_single : {r : List ℕ} → InSingle (token k.TextClose) (39 ∷ []) r

-- the lexeme t may stand before r, by the rules of the text that the place stands in, or those of code
abbrev pub IsIn : Option Quote → State → What → List ℕ → List ℕ → Type 0
IsIn None s w t r = InCode s w t r
IsIn (Some q.Double) s w t r = InDouble w t r
IsIn (Some q.Single) s w t r = InSingle w t r

-- At this state the lexeme t may stand before r.
abbrev pub Is : State → What → List ℕ → List ℕ → Type 0
Is s w t r = IsIn (text_at s.opens) s w t r
