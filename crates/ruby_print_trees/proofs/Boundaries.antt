-- Behind each lexeme UTF-8 goes on, a piece of a text is UTF-8, and no piece stands behind a piece.
use Rattle.std.proofs.Common.{◌≡◌, inl, inr, ℕ, zero, suc, ◌<◌, ◌≤◌, Bool, true, false, ◌&&◌, ◌==◌, nat_lt, List, []}
use Rattle.std.proofs.Common.{◌∷◌, ◌++◌, length, take, Option, Some, None, refl, sym, ap, ◌∙◌, subst, arith}
use Rattle.std.proofs.Common.{append_assoc, append-nil, length-append, IsUtf8}
use Rattle.std.proofs.lemmas.Bool.Decides.{nat_tests}
use Rattle.std.proofs.lemmas.Str.{IsUtf8-nil, IsUtf8-from_is_utf8}
use Rattle.std.specs.Str.{is_utf8}
use Rattle.std.specs.Str.Lossy.{utf8_valid_len, valid_len_up_to}
use Rattle.std.specs.Char.{is_ascii_digit, is_ascii_uppercase}
use Rattle.ruby_token.specs.declared.token.Op.{Op}
use Rattle.ruby_token.specs.declared.token.TokenKind.{TokenKind}
use Rattle.ruby_token.specs.declared.token.TokenKind.TheVariants as k
use Rattle.ruby_token.specs.declared.opens.Quote.{Quote}
use Rattle.ruby_token.specs.declared.opens.Quote.TheVariants as q
use Rattle.ruby_token.specs.declared.state.State.{State}
use Rattle.ruby_token.specs.Bytes.{Every, is_word, is_lower, is_white, not_lf, is_line_end, is_quote, is_suffix}
use Rattle.ruby_token.specs.Bytes.{is_single_escape, next_is, next_passes}
use Rattle.ruby_token.specs.Opens.{text_at}
use Rattle.ruby_token.specs.State.{state_after}
use Rattle.ruby_token.specs.Lexemes.{NameTail, plain, suffixed, Digits, no_more, digit, underscore, Number, zero_alone}
use Rattle.ruby_token.specs.Lexemes.{number, Ends, last_end, more_ends, white_before, comment_before, ends_line}
use Rattle.ruby_token.specs.Lexemes.{is_between, Row, first_row, later_row, What, gap, token, InCode, white, comment}
use Rattle.ruby_token.specs.Lexemes.{dropped, line, lines, name, constant, ivar, label, symbol, symbol_constant, int}
use Rattle.ruby_token.specs.Lexemes.{negative, quote, inside_close, operator, is_plain, Plain, nothing, byte, hash}
use Rattle.ruby_token.specs.Lexemes.{escape, Single, nothing_single, byte_single, escape_single, backslash, InDouble}
use Rattle.ruby_token.specs.Lexemes.{piece, closing, opening, InSingle, piece_single, closing_single, IsIn, Is}
use Rattle.ruby_token.specs.Cut.{Longest, utf8_front}
use Rattle.ruby_token.proofs.Words.{split_if}
use Rattle.ruby_token.proofs.Cuts.{some_text}
use Rattle.ruby_grammar.proofs.Tools.{and_true}
use Rattle.ruby_print_trees.proofs.Escapes.{utf8_behind, utf8_parts, small_or_wide}

-- ---- bytes below 128

abbrev small : ℕ → Bool
small b = nat_lt b 128

smaller : (b : ℕ) → small b ≡ true → b < 128
smaller b h = grind (arith, nat_tests)

every_is : (p r : ℕ → Bool) → ((b : ℕ) → p b ≡ true → r b ≡ true) → (t : List ℕ) → Every p t → Every r t
every_is p r f [] h = tt
every_is p r f (b ∷ t) h = (f b h.0, every_is p r f t h.1)

every_push : (p : ℕ → Bool) (t : List ℕ) (b : ℕ) → Every p t → p b ≡ true → Every p (t ++ b ∷ [])
every_push p [] b h i = (i, tt)
every_push p (c ∷ t) b h i = (h.0, every_push p t b h.1 i)

small_word : (b : ℕ) → is_word b ≡ true → small b ≡ true
small_word b h = grind (arith, nat_tests)

small_lower : (b : ℕ) → is_lower b ≡ true → small b ≡ true
small_lower b h = grind (arith, nat_tests)

small_upper : (b : ℕ) → is_ascii_uppercase b ≡ true → small b ≡ true
small_upper b h = grind (arith, nat_tests)

small_digit : (b : ℕ) → is_ascii_digit b ≡ true → small b ≡ true
small_digit b h = grind (arith, nat_tests)

small_suffix : (b : ℕ) → is_suffix b ≡ true → small b ≡ true
small_suffix b h = grind (arith, nat_tests)

small_white : (b : ℕ) → is_white b ≡ true → small b ≡ true
small_white b h = grind (arith, nat_tests)

small_line : (b : ℕ) → is_line_end b ≡ true → small b ≡ true
small_line b h = grind (arith, nat_tests)

small_quote : (b : ℕ) → is_quote b ≡ true → small b ≡ true
small_quote b h = grind (arith, nat_tests)

small_end : (v : Bool) (b : ℕ) → ends_line v b ≡ true → b < 128
small_end true b h = grind (arith, nat_tests)
small_end false b h = grind (arith, nat_tests)

small_between : (v : Bool) (b : ℕ) → is_between v b ≡ true → b < 128
small_between true b h = grind (arith, nat_tests)
small_between false b h = grind (arith, nat_tests)

small_tail : (t r : List ℕ) → NameTail t r → Every small t
small_tail t r (plain e) = every_is is_word small small_word t e
small_tail t r (suffixed u q e s n) = every_push small u q (every_is is_word small small_word u e) (small_suffix q s)

small_digits : (t : List ℕ) → Digits t → Every small t
small_digits t no_more = tt
small_digits t (digit {b = b} {t = u} h d) = (small_digit b h, small_digits u d)
small_digits t (underscore {b = b} {t = u} h d) = (refl, (small_digit b h, small_digits u d))

small_number : (t : List ℕ) → Number t → Every small t
small_number t zero_alone = (refl, tt)
small_number t (number {b = b} {t = u} h z d) = (small_digit b h, small_digits u d)

abbrev all_small : List ℕ → Bool
all_small [] = true
all_small (b ∷ t) = small b && all_small t

abbrev rows_small : List (List ℕ × Op) → Bool
rows_small [] = true
rows_small (row ∷ rows) = all_small row.0 && rows_small rows

every_small : (t : List ℕ) → all_small t ≡ true → Every small t
every_small [] h = tt
every_small (b ∷ t) h = let p = and_true (small b) (all_small t) h in (p.0, every_small t p.1)

row_small : {rows : List (List ℕ × Op)} {t : List ℕ} {x : Op} → Row rows t x → rows_small rows ≡ true → Every small t
row_small (first_row {t = t}) h = every_small t (and_true _ _ h).0
row_small (later_row {q = q} r) h = row_small r (and_true (all_small q.0) _ h).1

-- ---- behind a lexeme of code

behind_small : (t r : List ℕ) → Every small t → IsUtf8 (t ++ r) → IsUtf8 r
behind_small [] r h u = u
behind_small (b ∷ t) r h u = behind_small t r h.1 (utf8_behind b (t ++ r) (smaller b h.0) u)

behind_ends : (v : Bool) (t r : List ℕ) → Ends v t → IsUtf8 (t ++ r) → IsUtf8 r
behind_ends v t r (last_end {b = b} h) u = utf8_behind b r (small_end v b h) u
behind_ends v t r (more_ends {b = b} {t = s} h e) u = behind_ends v s r e (utf8_behind b (s ++ r) (small_end v b h) u)
behind_ends v t r (white_before {b = b} {t = s} h e) u =
    behind_ends v s r e (utf8_behind b (s ++ r) (small_between v b h) u)
behind_ends v t r (comment_before {t = s} c h e) u =
    behind_ends v (10 ∷ s) r e
    (utf8_parts (35 ∷ c) 10 (s ++ r) (omega arith) (subst (λ l. IsUtf8 (35 ∷ l)) (append_assoc c (10 ∷ s) r) u)).1

-- no lexeme at this place is longer
abbrev NoLonger : Option Quote → State → List ℕ → List ℕ → Type 0
NoLonger o s t r = (w : What) (t' r' : List ℕ) → IsIn o s w t' r' → t' ++ r' ≡ t ++ r → length t' ≤ length t

longer : (t u : List ℕ) → 0 < length u → length (t ++ u) ≤ length t → ⊥
longer t u h l = omega (arith, length-append t u, h, l)

line_feed : (c : ℕ) → (c == 10) ≡ true → c < 128
line_feed c h = grind (arith, nat_tests)

no_line_feed : (c : ℕ) → (c == 10) ≡ false → not_lf c ≡ true
no_line_feed c h = rw h refl

behind_comment : (s : State) (t r : List ℕ) → Every not_lf t → NoLonger None s (35 ∷ t) r → IsUtf8 (35 ∷ (t ++ r)) →
    IsUtf8 r
behind_comment s t [] e l u = IsUtf8-nil
behind_comment s t (c ∷ r) e l u = by_end (c == 10) refl
  where
    by_end : (v : Bool) → (c == 10) ≡ v → IsUtf8 (c ∷ r)
    by_end true h = (utf8_parts (35 ∷ t) c r (line_feed c h) u).1
    by_end false h = absurd (longer (35 ∷ t) (c ∷ []) (omega arith)
        (l gap (35 ∷ (t ++ c ∷ [])) r (comment (every_push not_lf t c e (no_line_feed c h)))
        (ap (λ x. 35 ∷ x) (append_assoc t (c ∷ []) r))))

behind_code : (s : State) (w : What) (t r : List ℕ) → InCode s w t r → NoLonger None s t r → IsUtf8 (t ++ r) → IsUtf8 r
behind_code s w _ r (white {b = b} {t = t} h e) l u =
    behind_small (b ∷ t) r (small_white b h, every_is is_white small small_white t e) u
behind_code s w _ r (comment {t = t} e) l u = behind_comment s t r e l u
behind_code s w _ r (dropped h) l u = behind_small (10 ∷ []) r (refl, tt) u
behind_code s w _ r (line {b = b} h d) l u = behind_small (b ∷ []) r (small_line b h, tt) u
behind_code s w _ r (lines {b = b} {t = t} h d e) l u =
    behind_ends _ t r e (utf8_behind b (t ++ r) (smaller b (small_line b h)) u)
behind_code s w _ r (name {b = b} {t = t} h n) l u = behind_small (b ∷ t) r (small_lower b h, small_tail t r n) u
behind_code s w _ r (constant {b = b} {t = t} h e) l u =
    behind_small (b ∷ t) r (small_upper b h, every_is is_word small small_word t e) u
behind_code s w _ r (ivar {b = b} {t = t} h e) l u =
    behind_small (64 ∷ b ∷ t) r (refl, (small_lower b h, every_is is_word small small_word t e)) u
behind_code s w _ r (label {b = b} {t = t} h n c) l u = behind_small (b ∷ (t ++ 58 ∷ [])) r
    (small_lower b h, every_push small t 58 (small_tail t (58 ∷ r) n) refl) u
behind_code s w _ r (symbol {b = b} {t = t} c h n) l u =
    behind_small (58 ∷ b ∷ t) r (refl, (small_lower b h, small_tail t r n)) u
behind_code s w _ r (symbol_constant {b = b} {t = t} c h e) l u =
    behind_small (58 ∷ b ∷ t) r (refl, (small_upper b h, every_is is_word small small_word t e)) u
behind_code s w t r (int n) l u = behind_small t r (small_number t n) u
behind_code s w _ r (negative {t = t} v n) l u = behind_small (45 ∷ t) r (refl, small_number t n) u
behind_code s w _ r (quote {b = b} h) l u = behind_small (b ∷ []) r (small_quote b h, tt) u
behind_code s w _ r (inside_close h) l u = behind_small (125 ∷ []) r (refl, tt) u
behind_code s w t r (operator m c) l u = behind_small t r (row_small m refl) u

-- ---- pieces of texts

-- what stood behind the text is text too
moved : (f : List ℕ → Bool) (t u r v : List ℕ) → v ≡ u ++ r → f (t ++ v) ≡ false → f ((t ++ u) ++ r) ≡ false
moved f t u r v e h = ap f (append_assoc t u r ∙ ap (λ x. t ++ x) (sym e)) ∙ h

plain_append : {t v : List ℕ} → Plain t v → (u r : List ℕ) → v ≡ u ++ r → Plain u r → Plain (t ++ u) r
plain_append nothing u r e p = p
plain_append (byte h q) u r e p = byte h (plain_append q u r e p)
plain_append (hash {t = t} {r = v} h q) u r e p = hash (moved (next_is 123) t u r v e h) (plain_append q u r e p)
plain_append (escape h q) u r e p = escape h (plain_append q u r e p)

single_append : {t v : List ℕ} → Single t v → (u r : List ℕ) → v ≡ u ++ r → Single u r → Single (t ++ u) r
single_append nothing_single u r e p = p
single_append (byte_single h q) u r e p = byte_single h (single_append q u r e p)
single_append (escape_single h q) u r e p = escape_single h (single_append q u r e p)
single_append (backslash {t = t} {r = v} h q) u r e p = backslash (moved (next_passes is_single_escape) t u r v e h)
    (single_append q u r e p)

plain_in : {t r : List ℕ} → InDouble (token k.TextPiece) t r → Plain t r
plain_in (piece p) = p

single_in : {t r : List ℕ} → InSingle (token k.TextPiece) t r → Single t r
single_in (piece_single p) = p

abbrev Piece : Option Quote → State → List ℕ → List ℕ → Type 0
Piece o s t r = IsIn o s (token k.TextPiece) t r

joined : (o : Option Quote) (s : State) (t u r : List ℕ) → Piece o s t (u ++ r) → Piece o s u r → Piece o s (t ++ u) r
joined None s t u r i j = elim i [ ]
joined (Some q.Double) s t u r (piece p) j = piece (plain_append p u r refl (plain_in j))
joined (Some q.Single) s t u r (piece_single p) j = piece_single (single_append p u r refl (single_in j))

wide_plain : (c : ℕ) → 128 ≤ c → is_plain c ≡ true
wide_plain c h = grind (arith, nat_tests)

wide_single : (c : ℕ) → 128 ≤ c → is_single_escape c ≡ false
wide_single c h = grind (arith, nat_tests)

wide_piece : (o : Option Quote) (s : State) (t r : List ℕ) (c : ℕ) (r' : List ℕ) → Piece o s t r → 128 ≤ c →
    Piece o s (c ∷ []) r'
wide_piece None s t r c r' i h = elim i [ ]
wide_piece (Some q.Double) s t r c r' i h = piece (byte (wide_plain c h) nothing)
wide_piece (Some q.Single) s t r c r' i h = piece_single (byte_single (wide_single c h) nothing_single)

no_piece_behind : (o : Option Quote) (s : State) (t u r : List ℕ) → Piece o s t (u ++ r) → NoLonger o s t (u ++ r) →
    Piece o s u r → 0 < length u → ⊥
no_piece_behind o s t u r i l j h =
    longer t u h (l (token k.TextPiece) (t ++ u) r (joined o s t u r i j) (append_assoc t u r))

piece_parts : (o : Option Quote) (s : State) (t r : List ℕ) → Piece o s t r → NoLonger o s t r → IsUtf8 (t ++ r) →
    IsUtf8 t × IsUtf8 r
piece_parts o s t [] i l u = (subst (λ x. IsUtf8 x) (append-nil t) u, IsUtf8-nil)
piece_parts o s t (c ∷ r) i l u = elim (small_or_wide c) [
  | inl h ↦ utf8_parts t c r h u
  | inr h ↦ absurd (no_piece_behind o s t (c ∷ []) r i l (wide_piece o s t (c ∷ r) c r i h) (omega arith))
]

behind_double : (s : State) (w : What) (t r : List ℕ) → InDouble w t r → NoLonger (Some q.Double) s t r →
    IsUtf8 (t ++ r) → IsUtf8 r
behind_double s w t r (piece p) l u = (piece_parts (Some q.Double) s t r (piece p) l u).1
behind_double s w t r closing l u = behind_small (34 ∷ []) r (refl, tt) u
behind_double s w t r opening l u = behind_small (35 ∷ 123 ∷ []) r (refl, (refl, tt)) u

behind_single : (s : State) (w : What) (t r : List ℕ) → InSingle w t r → NoLonger (Some q.Single) s t r →
    IsUtf8 (t ++ r) → IsUtf8 r
behind_single s w t r (piece_single p) l u = (piece_parts (Some q.Single) s t r (piece_single p) l u).1
behind_single s w t r closing_single l u = behind_small (39 ∷ []) r (refl, tt) u

behind : (o : Option Quote) (s : State) (w : What) (t r : List ℕ) → IsIn o s w t r → NoLonger o s t r →
    IsUtf8 (t ++ r) → IsUtf8 r
behind None s w t r i l u = behind_code s w t r i l u
behind (Some q.Double) s w t r i l u = behind_double s w t r i l u
behind (Some q.Single) s w t r i l u = behind_single s w t r i l u

-- ---- the longest lexeme

-- Behind a lexeme of UTF-8 there is UTF-8: text goes on being valid.
pub rest_utf8 : (s : State) (w : What) (t r : List ℕ) → Longest s w t r → IsUtf8 (t ++ r) → IsUtf8 r
rest_utf8 s w t r h u = behind (text_at s.opens) s w t r h.is h.longest u

-- A piece of a text that is UTF-8 is UTF-8.
pub piece_utf8 : (s : State) (t r : List ℕ) → Longest s (token k.TextPiece) t r → IsUtf8 (t ++ r) → IsUtf8 t
piece_utf8 s t r h u = (piece_parts (text_at s.opens) s t r h.is h.longest u).0

-- Behind a piece: a text goes on, and no piece begins.
pub record PieceEnds (s : State) (bs : List ℕ) : Type 0 where
  pub inside : text_at s.opens ≡ None → ⊥
  pub no_piece : (t r : List ℕ) → Is s (token k.TextPiece) t r → t ++ r ≡ bs → ⊥

no_code_piece : (o : Option Quote) (s : State) (t r : List ℕ) → Piece o s t r → o ≡ None → ⊥
no_code_piece None s t r i e = elim i [ ]
no_code_piece (Some c) s t r i e = cc

other_state : (o : Option Quote) (s s' : State) (t r : List ℕ) → Piece o s t r → Piece o s' t r
other_state None s s' t r i = elim i [ ]
other_state (Some q.Double) s s' t r i = i
other_state (Some q.Single) s s' t r i = i

-- Behind a piece of a text no other piece begins.
pub piece_ends : (s : State) (n : ℕ) (kind : TokenKind) (t r : List ℕ) → kind ≡ k.TextPiece →
    Longest s (token kind) t r → PieceEnds (state_after kind t n s) r
piece_ends s n kind t r e = subst (λ x. Longest s (token x) t r → PieceEnds (state_after x t n s) r) (sym e)
    (λ h. record {
      inside = no_code_piece (text_at s.opens) s t r h.is;
      no_piece = λ u v i g. no_piece_behind (text_at s.opens) s t u v
          (subst (λ x. Piece (text_at s.opens) s t x) (sym g) h.is)
          (λ w t' r' a b. h.longest w t' r' a (b ∙ ap (λ x. t ++ x) g))
          (other_state (text_at s.opens) (state_after k.TextPiece t n s) s u v i)
          (some_text (state_after k.TextPiece t n s) (token k.TextPiece) u v i);
    })

gap_inside : (o : Option Quote) (s : State) (t r : List ℕ) → IsIn o s gap t r → (o ≡ None → ⊥) → ⊥
gap_inside None s t r i h = h refl
gap_inside (Some q.Double) s t r i h = elim i [ ]
gap_inside (Some q.Single) s t r i h = elim i [ ]

-- No gap stands where a piece ended.
pub no_gap : (s : State) (t r bs : List ℕ) → Longest s gap t r → PieceEnds s bs → ⊥
no_gap s t r bs h p = gap_inside (text_at s.opens) s t r h.is p.inside

-- ---- the front that is UTF-8

up_to_utf8 : (bytes : List ℕ) (n : ℕ) → IsUtf8 (take (valid_len_up_to bytes n) bytes)
up_to_utf8 bytes zero = IsUtf8-nil
up_to_utf8 bytes (suc n) = split_if (λ m. IsUtf8 (take m bytes)) (is_utf8 (take (suc n) bytes)) (suc n)
    (valid_len_up_to bytes n) (λ h. IsUtf8-from_is_utf8 (take (suc n) bytes) h) (λ h. up_to_utf8 bytes n)

-- What the lexer reads of a file is UTF-8.
pub front_utf8 : (bytes : List ℕ) → IsUtf8 (utf8_front bytes)
unfolding utf8_valid_len
front_utf8 bytes = up_to_utf8 bytes (length bytes)
