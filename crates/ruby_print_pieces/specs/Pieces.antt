-- The pieces of a printed text: tokens with the white before them.
use Rattle.std.specs.Prelude.{ℕ, ◌+◌, Bool, true, false, List, [], ◌∷◌, ◌++◌, length, codes, if◌then◌else◌, bytes_eq}
use Rattle.std.specs.List.{flat_map}
use Rattle.ruby_token.specs.declared.token.Op.{Op}
use Rattle.ruby_token.specs.declared.token.Op.TheVariants as op
use Rattle.ruby_token.specs.declared.token.TokenKind.{TokenKind}
use Rattle.ruby_token.specs.declared.token.TokenKind.TheVariants as k
use Rattle.ruby_grammar.specs.Words.{Word}

-- the spaces before a token, its kind and its text
pub record Piece : Type 0 where
  pub gap : List ℕ
  pub kind : TokenKind
  pub text : List ℕ

-- A piece of this white, kind and text.
abbrev pub piece : List ℕ → TokenKind → List ℕ → Piece
piece gap kind text = record { gap = gap; kind = kind; text = text }

-- the bytes of pieces
abbrev pub piece_bytes : Piece → List ℕ
piece_bytes p = p.gap ++ p.text

-- The bytes of pieces: each one's white and then its text.
abbrev pub bytes_of : List Piece → List ℕ
bytes_of ps = flat_map piece_bytes ps

-- ---- pieces as words of the grammar, from this place on

-- Whether a text has no byte.
abbrev pub is_empty : List ℕ → Bool
is_empty [] = true
is_empty (b ∷ bs) = false

-- A piece's token, its white beginning at this place.
abbrev pub word_at : ℕ → Piece → Word
word_at n p = record { kind = p.kind; text = p.text; tight = is_empty p.gap; at = n + length p.gap }

-- The place behind a piece that begins at this place.
abbrev pub behind_piece : ℕ → Piece → ℕ
behind_piece n p = n + length p.gap + length p.text

-- The words of pieces, the first beginning at this place.
abbrev pub words_at : ℕ → List Piece → List Word
words_at n [] = []
words_at n (p ∷ ps) = word_at n p ∷ words_at (behind_piece n p) ps

-- ---- small pieces

-- An operator's piece.
abbrev pub mark : List ℕ → Op → List ℕ → Piece
mark gap o text = piece gap (k.Op o) text

-- A name's piece.
abbrev pub name : List ℕ → List ℕ → Piece
name gap text = piece gap k.Name text

-- A constant name's piece.
abbrev pub const : List ℕ → List ℕ → Piece
const gap text = piece gap k.Const text

-- The piece `(`.
abbrev pub open_paren : List ℕ → Piece
open_paren gap = mark gap op.OpenParen (codes "(")

-- The piece `)`.
abbrev pub close_paren : Piece
close_paren = mark [] op.CloseParen (codes ")")

-- The piece `[`.
abbrev pub open_bracket : List ℕ → Piece
open_bracket gap = mark gap op.OpenBracket (codes "[")

-- The piece `]`.
abbrev pub close_bracket : Piece
close_bracket = mark [] op.CloseBracket (codes "]")

-- The piece `,`.
abbrev pub comma : Piece
comma = mark [] op.Comma (codes ",")

-- The piece `.`.
abbrev pub dot : Piece
dot = mark [] op.Dot (codes ".")

-- The piece `::`.
abbrev pub colons : List ℕ → Piece
colons gap = mark gap op.Path (codes "::")

-- The piece of a line's end.
abbrev pub newline : Piece
newline = piece [] k.Line (10 ∷ [])

-- One space, as white before a piece.
abbrev pub space : List ℕ
space = 32 ∷ []

-- The operator of a call with two operands, of its name.
abbrev pub op_of : List ℕ → Op
op_of text =
    if bytes_eq text (codes "*") then op.Times
    else (if bytes_eq text (codes "/") then op.Divide
    else (if bytes_eq text (codes "%") then op.Modulo
    else (if bytes_eq text (codes "+") then op.Plus
    else (if bytes_eq text (codes "-") then op.Minus
    else (if bytes_eq text (codes "<") then op.Less
    else (if bytes_eq text (codes "<=") then op.AtMost
    else (if bytes_eq text (codes ">") then op.More
    else (if bytes_eq text (codes ">=") then op.AtLeast
    else op.Same))))))))

-- ---- paths and lists of names

-- The pieces of a path's names behind the first, `::` before each.
abbrev pub path_more : List (List ℕ) → List Piece
path_more [] = []
path_more (n ∷ ns) = colons [] ∷ const [] n ∷ path_more ns

-- The pieces of a path, the white before its first name given.
abbrev pub path : List ℕ → List (List ℕ) → List Piece
path gap [] = []
path gap (n ∷ ns) = const gap n ∷ path_more ns

-- names of one kind with commas between them
abbrev pub listed_more : TokenKind → List (List ℕ) → List Piece
listed_more kind [] = []
listed_more kind (n ∷ ns) = comma ∷ piece space kind n ∷ listed_more kind ns

-- The pieces of names with commas between.
abbrev pub listed : TokenKind → List ℕ → List (List ℕ) → List Piece
listed kind gap [] = []
listed kind gap (n ∷ ns) = piece gap kind n ∷ listed_more kind ns
