-- What the words of a file are: names, constants, numbers, symbols, pieces of texts and operators.
use Rattle.std.proofs.Common.{◌≡◌, ◌≢◌, ℕ, ◌-◌, ◌≤◌, Bool, true, false, ◌&&◌, ◌||◌, not, ◌==◌, nat_le, List, [], ◌∷◌}
use Rattle.std.proofs.Common.{◌++◌, length, drop, Option, Some, None, refl, sym, ◌∙◌, subst, arith, length-append}
use Rattle.std.proofs.Common.{IsUtf8}
use Rattle.std.proofs.lemmas.Bool.Decides.{nat_tests}
use Rattle.ruby_types.specs.declared.tree.Expr.{Expr}
use Rattle.ruby_token.specs.declared.token.Op.{Op}
use Rattle.ruby_token.specs.declared.token.TokenKind.{TokenKind}
use Rattle.ruby_token.specs.declared.token.TokenKind.TheVariants as k
use Rattle.ruby_token.specs.declared.opens.Quote.{Quote}
use Rattle.ruby_token.specs.declared.opens.Quote.TheVariants as q
use Rattle.ruby_token.specs.declared.state.State.{State}
use Rattle.ruby_token.specs.Bytes.{is_lower, is_suffix}
use Rattle.ruby_token.specs.Opens.{text_at}
use Rattle.ruby_token.specs.Number.{is_in_range}
use Rattle.ruby_token.specs.Cut.{is_big}
use Rattle.ruby_token.specs.Lexemes as l
use Rattle.ruby_token.specs.Lexemes.{NameTail, plain, suffixed, Row, first_row, later_row, InCode, name, constant, ivar}
use Rattle.ruby_token.specs.Lexemes.{label, symbol, symbol_constant, operator, InDouble, piece, InSingle, piece_single}
use Rattle.ruby_token.specs.Lexemes.{IsIn}
use Rattle.ruby_token.proofs.Words.{split_if}
use Rattle.ruby_token.proofs.Cuts.{take_front}
use Rattle.ruby_grammar.specs.Words.{Word}
use Rattle.ruby_grammar.specs.Terminals.{op_terminal, terminal, kind_terminal, is, ends_in_suffix, is_name, is_variable}
use Rattle.ruby_grammar.specs.Terminals.{is_const}
use Rattle.ruby_grammar.specs.Terminals.{is_ivar, is_sym, is_label, is_int, is_text_piece, Level, units, products, sums}
use Rattle.ruby_grammar.specs.Terminals.{comparisons, equalities, conjunctions, disjunctions, is_operator}
use Rattle.ruby_grammar.specs.Rules.{Name}
use Rattle.ruby_grammar.specs.Values.{number_of, behind_sign, before_colon, text_bytes, operation}
use Rattle.ruby_grammar.proofs.Tools.{and_true}
use Rattle.ruby_print_pieces.specs.Names.{IsPlainName, plain_name, IsName, unmarked, IsConstName, capital, IsSymbolName}
use Rattle.ruby_print_pieces.specs.Names.{of_name, of_constant, IsMethodName, IsVariableName, IsInRange, is_operation}
use Rattle.ruby_print_pieces.specs.Names as naming
use Rattle.ruby_print_pieces.specs.Formed.{Formed, one, is_operation_of, is_not, is_and, is_or}
use Rattle.ruby_print_trees.proofs.Meaning.{Sound}
use Rattle.ruby_print_trees.proofs.WordKinds.{kind_is, name_is, op_is, in_code}
use Rattle.ruby_print_pieces.proofs.Numbers.{read_fits}
use Rattle.ruby_print_trees.proofs.Escapes.{text_utf8, text_some}

-- ---- texts of names

tail_name : (b : ℕ) (t r : List ℕ) → is_lower b ≡ true → NameTail t r → IsName (b ∷ t)
tail_name b t r h (plain e) = unmarked (plain_name h e)
tail_name b t r h (suffixed u q e s n) = naming.suffixed q (plain_name h e) s

name_text : {s : State} {t r : List ℕ} → InCode s (l.token k.Name) t r → IsName t
name_text (name {b = b} {t = t} {r = r} h n) = tail_name b t r h n

const_text : {s : State} {t r : List ℕ} → InCode s (l.token k.Const) t r → IsConstName t
const_text (constant h e) = capital h e

ivar_text : {s : State} {t r : List ℕ} → InCode s (l.token k.Ivar) t r → IsPlainName (drop 1 t)
ivar_text (ivar h e) = plain_name h e

symbol_text : {s : State} {t r : List ℕ} → InCode s (l.token k.Sym) t r → IsSymbolName (drop 1 t)
symbol_text (symbol {b = b} {t = t} {r = r} c h n) = of_name (tail_name b t r h n)
symbol_text (symbol_constant c h e) = of_constant (capital h e)

front_of : (t : List ℕ) (c : ℕ) → before_colon (t ++ c ∷ []) ≡ t
front_of t c = let e : length (t ++ c ∷ []) - 1 ≡ length t = rw length-append (omega arith) in
    rw e (take_front t (c ∷ []))

label_text : {s : State} {t r : List ℕ} → InCode s (l.token k.Label) t r → IsSymbolName (before_colon t)
label_text (label {b = b} {t = t} {r = r} h n c) = subst IsSymbolName (sym (front_of (b ∷ t) 58))
    (of_name (tail_name b t (58 ∷ r) h n))

-- a name that ends in no suffix is plain
suffix_at_end : (t : List ℕ) (q : ℕ) → ends_in_suffix (t ++ q ∷ []) ≡ is_suffix q
suffix_at_end [] q = refl
suffix_at_end (b ∷ []) q = refl
suffix_at_end (b ∷ c ∷ t) q = suffix_at_end (c ∷ t) q

plain_of : {t : List ℕ} → IsName t → not (ends_in_suffix t) ≡ true → IsPlainName t
plain_of (unmarked p) h = p
plain_of (naming.suffixed {n = t} q p s) h = absurd (no_suffix (ends_in_suffix (t ++ q ∷ [])) (suffix_at_end t q ∙ s) h)
  where
    no_suffix : (v : Bool) → v ≡ true → not v ≡ true → ⊥
    no_suffix true e h = cc
    no_suffix false e h = cc

-- ---- words

-- a word of the kind that stands for this terminal
of_kind : (w : Word) (kind : TokenKind) → w.kind ≡ kind → (s : Sound w) → l.Is s.state (l.token kind) w.text s.rest
of_kind w kind e s = subst (λ x. l.Is s.state (l.token x) w.text s.rest) e s.spelled

-- A method's name is spelled as one.
pub name_of : (w : Word) → is_name w ≡ true → Sound w → IsMethodName w.text
name_of w h s =
    let e = name_is w.kind w.text h in
    record {
      spelled = name_text (in_code s.state (l.token k.Name) w.text s.rest (of_kind w k.Name e.0 s) refl);
      free = e.1;
    }

-- A variable's name is spelled as one.
pub variable_of : (w : Word) → is_variable w ≡ true → Sound w → IsVariableName w.text
variable_of w h s =
    let p = and_true (is_name w) _ h in
    let m = name_of w p.0 s in
    record { spelled = plain_of m.spelled p.1; free = m.free }

-- A constant's name is spelled as one.
pub const_of : (w : Word) → is_const w ≡ true → Sound w → IsConstName w.text
const_of w h s = const_text
    (in_code s.state (l.token k.Const) w.text s.rest
    (of_kind w k.Const (kind_is w.kind w.text 51 h (omega arith) (omega arith)) s) refl)

-- An instance variable's name is spelled as one.
pub ivar_of : (w : Word) → is_ivar w ≡ true → Sound w → IsPlainName (behind_sign w.text)
ivar_of w h s = ivar_text
    (in_code s.state (l.token k.Ivar) w.text s.rest
    (of_kind w k.Ivar (kind_is w.kind w.text 52 h (omega arith) (omega arith)) s) refl)

-- A label's name is spelled as a symbol.
pub label_of : (w : Word) → is_label w ≡ true → Sound w → IsSymbolName (before_colon w.text)
label_of w h s = label_text
    (in_code s.state (l.token k.Label) w.text s.rest
    (of_kind w k.Label (kind_is w.kind w.text 53 h (omega arith) (omega arith)) s) refl)

-- A symbol's name is spelled as one.
pub symbol_of : (w : Word) → is_sym w ≡ true → Sound w → IsSymbolName (behind_sign w.text)
symbol_of w h s = symbol_text
    (in_code s.state (l.token k.Sym) w.text s.rest
    (of_kind w k.Sym (kind_is w.kind w.text 54 h (omega arith) (omega arith)) s) refl)

not_big : (b : Bool) → not b ≡ false → b ≡ true
not_big true h = refl
not_big false h = cc

-- A number's value is of 64 bits.
pub number_of_word : (w : Word) → is_int w ≡ true → Sound w → IsInRange (number_of w.text)
number_of_word w h s =
    let e = kind_is w.kind w.text 55 h (omega arith) (omega arith) in
    read_fits w.text (not_big (is_in_range w.text) (subst (λ x. is_big x w.text ≡ false) e s.fits))

-- ---- pieces of texts

piece_some : (o : Option Quote) (s : State) (t r : List ℕ) → IsIn o s (l.token k.TextPiece) t r → (double : Bool) →
    text_bytes double t ≢ []
piece_some None s t r i double = elim i [ ]
piece_some (Some q.Double) s t r (piece {b = b} {t = u} p) double = text_some double b u
piece_some (Some q.Single) s t r (piece_single {b = b} {t = u} p) double = text_some double b u

-- A piece's bytes are UTF-8 and some.
pub piece_of : (w : Word) → is_text_piece w ≡ true → Sound w → (double : Bool) → (text_bytes double w.text ≢ [])
    × IsUtf8 (text_bytes double w.text)
piece_of w h s double =
    let e = kind_is w.kind w.text 57 h (omega arith) (omega arith) in (
      piece_some (text_at s.state.opens) s.state w.text s.rest (of_kind w k.TextPiece e s) double,
      text_utf8 double w.text (s.utf8 e),
    )

-- ---- operators

-- an operator that is a call of its text
abbrev is_called : ℕ → Bool
is_called n = (n == 73) || (nat_le 75 n && nat_le n 83)

abbrev rows_named : List (List ℕ × Op) → Bool
rows_named [] = true
rows_named (row ∷ rows) = (not (is_called (op_terminal row.1)) || is_operation row.0) && rows_named rows

either_named : (a b : Bool) → (not a || b) ≡ true → a ≡ true → b ≡ true
either_named true b h e = h
either_named false b h e = cc

row_named : {rows : List (List ℕ × Op)} {t : List ℕ} {x : Op} → Row rows t x → rows_named rows ≡ true →
    is_called (op_terminal x) ≡ true → is_operation t ≡ true
row_named (first_row {t = t} {x = x}) h c = either_named (is_called (op_terminal x)) (is_operation t)
    (and_true _ _ h).0 c
row_named (later_row {q = q} r) h c =
    row_named r (and_true (not (is_called (op_terminal q.1)) || is_operation q.0) _ h).1 c

operator_text : {s : State} {t r : List ℕ} {x : Op} → InCode s (l.token (k.Op x)) t r →
    is_called (op_terminal x) ≡ true → is_operation t ≡ true
operator_text (operator r h) c = row_named r refl c

called_high : (n : ℕ) → is_called n ≡ true → 70 ≤ n
called_high n h = grind (arith, nat_tests)

called_text : (w : Word) → Sound w → is_called (terminal w) ≡ true → is_operation w.text ≡ true
called_text w s c =
    let o = op_is w.kind w.text (called_high (terminal w) c) in
    let i = in_code s.state (l.token (k.Op o.0)) w.text s.rest (of_kind w (k.Op o.0) o.1 s) refl in
    operator_text i (subst (λ x. is_called (kind_terminal x w.text) ≡ true) o.1 c)

abbrev operator_terminal : Level → ℕ → Bool
operator_terminal disjunctions n = n == 70
operator_terminal conjunctions n = n == 71
operator_terminal equalities n = (n == 73) || (n == 74)
operator_terminal comparisons n = (n == 75) || (n == 76) || (n == 77) || (n == 78)
operator_terminal sums n = (n == 79) || (n == 80)
operator_terminal products n = (n == 81) || (n == 82) || (n == 83)
operator_terminal units n = false

is_terminal : (level : Level) (w : Word) → is_operator level w ≡ operator_terminal level (terminal w)
is_terminal disjunctions w = refl
is_terminal conjunctions w = refl
is_terminal equalities w = refl
is_terminal comparisons w = refl
is_terminal sums w = refl
is_terminal products w = refl
is_terminal units w = refl

called_of : (level : Level) (n : ℕ) → operator_terminal level n ≡ true → (n == 70) ≡ false → (n == 71) ≡ false →
    (n == 74) ≡ false → is_called n ≡ true
called_of disjunctions n h a b c = grind (arith, nat_tests)
called_of conjunctions n h a b c = grind (arith, nat_tests)
called_of equalities n h a b c = grind (arith, nat_tests)
called_of comparisons n h a b c = grind (arith, nat_tests)
called_of sums n h a b c = grind (arith, nat_tests)
called_of products n h a b c = grind (arith, nat_tests)
called_of units n h a b c = cc

-- An operator over formed sides is formed.
pub operation_of : (level : Level) (w : Word) (names : List Name) (x y : Expr) → is_operator level w ≡ true →
    Sound w → Formed names one x → Formed names one y → Formed names one (operation w x y)
operation_of level w names x y h s i j =
    split_if (λ z. Formed names one z) (is 70 w) _ _ (λ e. is_or i j) (λ a.
    split_if (λ z. Formed names one z) (is 71 w) _ _ (λ e. is_and i j) (λ b.
    split_if (λ z. Formed names one z) (is 74 w) _ _ (λ e. is_not (is_operation_of i refl j)) (λ c.
    is_operation_of i (called_text w s (called_of level (terminal w) (sym (is_terminal level w) ∙ h) a b c)) j)))
