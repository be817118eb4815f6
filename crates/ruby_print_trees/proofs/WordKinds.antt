-- Which kind of token a word is, by what it is to the grammar.
use Rattle.std.proofs.Common.{◌≡◌, ℕ, ◌<◌, ◌≤◌, Bool, true, false, ◌&&◌, ◌==◌, nat_le, List, [], ◌∷◌, Option, Some}
use Rattle.std.proofs.Common.{None, if◌then◌else◌, refl, arith, bytes_eq}
use Rattle.std.proofs.lemmas.Bool.{eqb-true}
use Rattle.std.proofs.lemmas.Bool.Decides.{nat_tests}
use Rattle.ruby_token.specs.declared.token.Op.{Op}
use Rattle.ruby_token.specs.declared.token.Op.TheVariants as op
use Rattle.ruby_token.specs.declared.token.TokenKind.{TokenKind}
use Rattle.ruby_token.specs.declared.token.TokenKind.TheVariants as k
use Rattle.ruby_token.specs.declared.opens.Quote.{Quote}
use Rattle.ruby_token.specs.declared.opens.Quote.TheVariants as q
use Rattle.ruby_token.specs.declared.state.State.{State}
use Rattle.ruby_token.specs.Opens.{text_at}
use Rattle.ruby_token.specs.Lexemes.{What, gap, token, InCode, InDouble, piece, closing, opening, InSingle}
use Rattle.ruby_token.specs.Lexemes.{piece_single, closing_single, IsIn}
use Rattle.ruby_token.proofs.Words.{split_if}
use Rattle.ruby_words.specs.Words.{word_rows}
use Rattle.ruby_grammar.specs.Terminals.{code_in, name_terminal, op_terminal, kind_terminal}
use Rattle.ruby_grammar.proofs.Tools.{and_true}

abbrev low : List (List ℕ × ℕ) → Bool
low [] = true
low (row ∷ rows) = nat_le row.1 47 && low rows

below : (n m : ℕ) → nat_le n m ≡ true → n ≤ m
below n m h = grind (arith, nat_tests)

code_low : (rows : List (List ℕ × ℕ)) (name : List ℕ) → low rows ≡ true → code_in rows name ≤ 47
code_low [] name h = omega arith
code_low (row ∷ rows) name h =
    split_if (λ c. c ≤ 47) (bytes_eq row.0 name) row.1 (code_in rows name) (λ e. below row.1 47 (and_true _ _ h).0)
    (λ e. code_low rows name (and_true _ _ h).1)

name_low : (text : List ℕ) → name_terminal text ≤ 47
name_low text = code_low word_rows text refl

op_high : (o : Op) → 70 ≤ op_terminal o
op_high op.OrElse = omega arith
op_high op.AndAlso = omega arith
op_high op.Not = omega arith
op_high op.Same = omega arith
op_high op.Differs = omega arith
op_high op.Less = omega arith
op_high op.AtMost = omega arith
op_high op.More = omega arith
op_high op.AtLeast = omega arith
op_high op.Plus = omega arith
op_high op.Minus = omega arith
op_high op.Times = omega arith
op_high op.Divide = omega arith
op_high op.Modulo = omega arith
op_high op.Ask = omega arith
op_high op.Colon = omega arith
op_high op.Path = omega arith
op_high op.Dot = omega arith
op_high op.Comma = omega arith
op_high op.Assign = omega arith
op_high op.Arrow = omega arith
op_high op.OpenParen = omega arith
op_high op.CloseParen = omega arith
op_high op.OpenBracket = omega arith
op_high op.CloseBracket = omega arith
op_high op.OpenBrace = omega arith
op_high op.CloseBrace = omega arith
op_high op.Bar = omega arith
op_high _ = omega arith

-- the one kind that has this terminal, where it is no name and no operator
abbrev pub kind_of : ℕ → TokenKind
kind_of n =
    if n == 50 then k.Line else
    (if n == 51 then k.Const else
    (if n == 52 then k.Ivar else (if n == 53 then k.Label else (if n == 54 then k.Sym else (if n == 55 then k.Int
    else (if n == 56 then k.TextOpen else
    (if n == 57 then k.TextPiece else
    (if n == 58 then k.InsideOpen else (if n == 59 then k.InsideClose else k.TextClose)))))))))

by_kind : (kind : TokenKind) (text : List ℕ) (n : ℕ) → kind_terminal kind text ≡ n → 47 < n → n < 70 → kind ≡ kind_of n
by_kind k.Line text n e l h = rw (← e) refl
by_kind k.Name text n e l h = absurd (omega (arith, name_low text, e, l))
by_kind k.Const text n e l h = rw (← e) refl
by_kind k.Ivar text n e l h = rw (← e) refl
by_kind k.Label text n e l h = rw (← e) refl
by_kind k.Sym text n e l h = rw (← e) refl
by_kind k.Int text n e l h = rw (← e) refl
by_kind k.TextOpen text n e l h = rw (← e) refl
by_kind k.TextPiece text n e l h = rw (← e) refl
by_kind k.InsideOpen text n e l h = rw (← e) refl
by_kind k.InsideClose text n e l h = rw (← e) refl
by_kind k.TextClose text n e l h = rw (← e) refl
by_kind (k.Op o) text n e l h = absurd (omega (arith, op_high o, e, h))

-- A word with the number of a kind is of that kind.
pub kind_is : (kind : TokenKind) (text : List ℕ) (n : ℕ) → (kind_terminal kind text == n) ≡ true → 47 < n → n < 70 →
    kind ≡ kind_of n
kind_is kind text n h = by_kind kind text n (eqb-true (kind_terminal kind text) n h)

abbrev IsNamed : TokenKind → List ℕ → Type 0
IsNamed kind text = (kind ≡ k.Name) × (name_terminal text ≡ 0)

by_name : (kind : TokenKind) (text : List ℕ) → kind_terminal kind text ≡ 0 → IsNamed kind text
by_name k.Name text e = (refl, e)
by_name k.Line text e = absurd (omega arith)
by_name k.Const text e = absurd (omega arith)
by_name k.Ivar text e = absurd (omega arith)
by_name k.Label text e = absurd (omega arith)
by_name k.Sym text e = absurd (omega arith)
by_name k.Int text e = absurd (omega arith)
by_name k.TextOpen text e = absurd (omega arith)
by_name k.TextPiece text e = absurd (omega arith)
by_name k.InsideOpen text e = absurd (omega arith)
by_name k.InsideClose text e = absurd (omega arith)
by_name k.TextClose text e = absurd (omega arith)
by_name (k.Op o) text e = absurd (omega (arith, op_high o, e))

-- A word with the number of names is a name and no word of Ruby.
pub name_is : (kind : TokenKind) (text : List ℕ) → (kind_terminal kind text == 0) ≡ true → (kind ≡ k.Name)
    × (name_terminal text ≡ 0)
name_is kind text h = by_name kind text (eqb-true (kind_terminal kind text) 0 h)

-- A word with the number of an operator is an operator.
pub op_is : (kind : TokenKind) (text : List ℕ) → 70 ≤ kind_terminal kind text → (o : Op) × (kind ≡ k.Op o)
op_is k.Line text h = absurd (omega arith)
op_is k.Name text h = absurd (omega (arith, name_low text, h))
op_is k.Const text h = absurd (omega arith)
op_is k.Ivar text h = absurd (omega arith)
op_is k.Label text h = absurd (omega arith)
op_is k.Sym text h = absurd (omega arith)
op_is k.Int text h = absurd (omega arith)
op_is k.TextOpen text h = absurd (omega arith)
op_is k.TextPiece text h = absurd (omega arith)
op_is k.InsideOpen text h = absurd (omega arith)
op_is k.InsideClose text h = absurd (omega arith)
op_is k.TextClose text h = absurd (omega arith)
op_is (k.Op o) text h = (o, refl)

-- ---- what stands in code

-- Whether a lexeme stands inside a text.
abbrev pub in_text : What → Bool
in_text gap = false
in_text (token k.TextPiece) = true
in_text (token k.TextClose) = true
in_text (token k.InsideOpen) = true
in_text _ = false

double_only : {s : State} {w : What} {t r : List ℕ} → InDouble w t r → in_text w ≡ false → InCode s w t r
double_only (piece p) h = cc
double_only closing h = cc
double_only opening h = cc

single_only : {s : State} {w : What} {t r : List ℕ} → InSingle w t r → in_text w ≡ false → InCode s w t r
single_only (piece_single p) h = cc
single_only closing_single h = cc

code_only : (o : Option Quote) (s : State) (w : What) (t r : List ℕ) → IsIn o s w t r → in_text w ≡ false →
    InCode s w t r
code_only None s w t r i h = i
code_only (Some q.Double) s w t r i h = double_only i h
code_only (Some q.Single) s w t r i h = single_only i h

-- A lexeme outside texts is one of code.
pub in_code : (s : State) (w : What) (t r : List ℕ) → IsIn (text_at s.opens) s w t r → in_text w ≡ false →
    InCode s w t r
in_code s w t r i h = code_only (text_at s.opens) s w t r i h
