-- What the bytes before a place mean for what stands there.
use Rattle.std.specs.Prelude.{ℕ, ◌+◌, ◌-◌, Bool, true, false, List, [], ◌∷◌, if◌then◌else◌, ◌==◌, ◌&&◌, ◌||◌, drop}
use Rattle.std.specs.Prelude.{length, codes, nat_eq, nat_lt, slice_index}
use Rattle.std.specs.List.{starts_with}
use Rattle.ruby_token.specs.declared.token.Op.{Op}
use Rattle.ruby_token.specs.declared.token.Op.TheVariants as op
use Rattle.ruby_token.specs.declared.token.TokenKind.{TokenKind}
use Rattle.ruby_token.specs.declared.token.TokenKind.TheVariants as k
use Rattle.ruby_token.specs.declared.opens.Quote.{Quote}
use Rattle.ruby_token.specs.declared.opens.Quote.TheVariants as q
use Rattle.ruby_token.specs.declared.opens.Open.{Open}
use Rattle.ruby_token.specs.declared.opens.Open.TheVariants as o
use Rattle.ruby_token.specs.declared.state.After.{After}
use Rattle.ruby_token.specs.declared.state.After.TheVariants as a
use Rattle.ruby_token.specs.declared.state.State.{State}
use Rattle.ruby_token.specs.Bytes.{next_is}

-- at the first byte of a file
abbrev pub start : State
start = record { opens = []; brackets = 0; after = a.Other; before = 0 }

-- ---- the last token

-- the reserved words that stand for no value: all but `self`, `nil`, `true` and `false`
abbrev pub valueless_words : List (List ℕ)
valueless_words =
    codes "end" ∷ codes "if" ∷ codes "def" ∷ codes "return" ∷ codes "else" ∷ codes "class" ∷ codes "module" ∷ codes
    "unless"
    ∷ codes "elsif" ∷ codes "then" ∷ codes "raise" ∷ codes "include" ∷ codes "attr_reader" ∷ []

-- the text is one of these words
abbrev pub is_one_of : List (List ℕ) → List ℕ → Bool
is_one_of [] text = false
is_one_of (w ∷ ws) text = if (length text == length w) && starts_with nat_eq text w then true else is_one_of ws text

unfoldable pub is_valueless : List ℕ → Bool
is_valueless text = is_one_of valueless_words text

-- a closing bracket ends a value; behind any other operator the text goes on
abbrev pub after_op : Op → After
after_op op.CloseParen = a.Value
after_op op.CloseBracket = a.Value
after_op op.CloseBrace = a.Value
after_op _ = a.Joins

-- whether a token of this kind and text ends a value, or lets the text go on over a line's end
abbrev pub after_token : TokenKind → List ℕ → After
after_token k.Line text = a.Other
after_token k.Name text = if is_valueless text then a.Other else a.Value
after_token k.Const text = a.Value
after_token k.Ivar text = a.Value
after_token k.Label text = a.Joins
after_token k.Sym text = a.Value
after_token k.Int text = a.Value
after_token k.TextOpen text = a.Other
after_token k.TextPiece text = a.Other
after_token k.InsideOpen text = a.Other
after_token k.InsideClose text = a.Other
after_token k.TextClose text = a.Value
after_token (k.Op x) text = after_op x

-- the last token ends a value, so that a `-` behind it is an operator
abbrev pub ends_value : After → Bool
ends_value a.Value = true
ends_value _ = false

-- the last token lets the text go on, so that an LF behind it is dropped
abbrev pub joins : After → Bool
joins a.Joins = true
joins _ = false

-- ---- what is open

-- the quote that a text opens with: single for `'`, else double
abbrev pub quote_of : List ℕ → Quote
quote_of text = if next_is 39 text then q.Single else q.Double

-- a `}` where no inside part ends: it closes a brace, if one is the innermost
abbrev pub close_brace : List Open → List Open
close_brace [] = []
close_brace (o.Brace ∷ xs) = xs
close_brace (o.Text q n ∷ xs) = o.Text q n ∷ xs
close_brace (o.Inside ∷ xs) = o.Inside ∷ xs

-- what is open behind an operator: `{` opens a brace, and `}` closes one that is the innermost
abbrev pub opens_op : Op → List Open → List Open
opens_op op.OpenBrace xs = o.Brace ∷ xs
opens_op op.CloseBrace xs = close_brace xs
opens_op _ xs = xs

-- what is open behind a token of this kind and text that begins at n
abbrev pub opens_after : TokenKind → List ℕ → ℕ → List Open → List Open
opens_after k.TextOpen text n xs = o.Text (quote_of text) n ∷ xs
opens_after k.TextClose text n xs = drop 1 xs
opens_after k.InsideOpen text n xs = o.Inside ∷ xs
opens_after k.InsideClose text n xs = drop 1 xs
opens_after (k.Op x) text n xs = opens_op x xs
opens_after _ text n xs = xs

-- ---- brackets: an opening one opens, and a closing one closes the innermost, of whichever kind

-- how many brackets are open behind an operator
abbrev pub brackets_op : Op → ℕ → ℕ
brackets_op op.OpenParen m = m + 1
brackets_op op.OpenBracket m = m + 1
brackets_op op.OpenBrace m = m + 1
brackets_op op.CloseParen m = m - 1
brackets_op op.CloseBracket m = m - 1
brackets_op op.CloseBrace m = m - 1
brackets_op _ m = m

-- how many brackets are open behind a token: only operators open and close them
abbrev pub brackets_after : TokenKind → ℕ → ℕ
brackets_after (k.Op x) m = brackets_op x m
brackets_after _ m = m

-- some bracket is open, so that an LF counts as white
abbrev pub in_brackets : State → Bool
in_brackets s = nat_lt 0 s.brackets

-- ---- the state behind some bytes

-- a lexeme's last byte, the byte before what comes next
abbrev pub last_of : List ℕ → ℕ
last_of text = slice_index text (length text - 1)

-- behind bytes that are no token
abbrev pub state_past : List ℕ → State → State
state_past text s = record s { before = last_of text }

-- behind a token that begins at n
abbrev pub state_after : TokenKind → List ℕ → ℕ → State → State
state_after kind text n s = record {
  opens = opens_after kind text n s.opens;
  brackets = brackets_after kind s.brackets;
  after = after_token kind text;
  before = last_of text;
}

-- a line's end that is no Line: an LF inside brackets, or behind a token after which the text goes on
abbrev pub drops : State → ℕ → Bool
drops s b = (b == 10) && (in_brackets s || joins s.after)
