-- The lexer finds the parts of a printed text in double quotes.
use Rattle.std.proofs.Common.{◌≡◌, ℕ, ◌+◌, ◌<◌, true, false, List, [], ◌∷◌, ◌++◌, length, refl, ap, sym, ◌∙◌, arith}
use Rattle.std.proofs.Common.{append_assoc, length-append, Some, None, ◌==◌, nat_lt, ◌≢◌}
use Rattle.std.specs.List.{flat_map}
use Rattle.std.proofs.lemmas.Bool.Decides.{nat_tests}
use Rattle.ruby_token.specs.declared.token.TokenKind.TheVariants as k
use Rattle.ruby_token.specs.declared.opens.Quote.TheVariants as q
use Rattle.ruby_token.specs.declared.lexeme.Lexeme.TheVariants as l
use Rattle.ruby_token.specs.declared.state.State.{State}
use Rattle.ruby_token.specs.Opens.{text_at}
use Rattle.ruby_token.specs.Lengths.{piece_from, piece_len}
use Rattle.ruby_token.specs.Steps.{lexeme, double_lexeme}
use Rattle.ruby_token.proofs.Words.{split_if}
use Rattle.ruby_token.proofs.Front.{front_double}
use Rattle.ruby_print.specs.Pieces.{escaped}

-- ---- marks

-- The lexer takes an opening quote as one token.
pub open_text_lexeme : (s : State) (r : List ℕ) → text_at s.opens ≡ None → lexeme s (34 ∷ r) ≡ l.Token k.TextOpen 1
unfolding lexeme
open_text_lexeme s r h = rw h refl

-- The lexer takes a closing quote as one token.
pub close_text_lexeme : (s : State) (r : List ℕ) → text_at s.opens ≡ Some q.Double →
    lexeme s (34 ∷ r) ≡ l.Token k.TextClose 1
unfolding lexeme
close_text_lexeme s r h = rw h refl

-- The lexer takes `#{` as one token.
pub inside_open_lexeme : (s : State) (r : List ℕ) → text_at s.opens ≡ Some q.Double →
    lexeme s (35 ∷ 123 ∷ r) ≡ l.Token k.InsideOpen 2
unfolding lexeme
inside_open_lexeme s r h = rw h refl

-- ---- plain parts

-- The escaped byte is passed over whole.
abbrev Passes : List ℕ → Type 0
Passes t = (0 < length t) × ((r : List ℕ) → piece_from false (t ++ r) ≡ length t + piece_from false r)

one_byte : (b : ℕ) → (b == 34) ≡ false → (b == 92) ≡ false → (b == 35) ≡ false → Passes (b ∷ [])
one_byte b x y z = (omega arith, λ r. rw (x, y, z) (omega arith))

escaped_passes : (b : ℕ) → Passes (escaped b)
escaped_passes b =
    split_if Passes (b == 34) _ _ (λ e. (omega arith, λ r. omega arith))
    (λ x. split_if Passes (b == 92) _ _ (λ e. (omega arith, λ r. omega arith))
    (λ y. split_if Passes (b == 35) _ _ (λ e. (omega arith, λ r. omega arith))
    (λ z. split_if Passes (b == 10) _ _ (λ e. (omega arith, λ r. omega arith))
    (λ u. split_if Passes (b == 9) _ _ (λ e. (omega arith, λ r. omega arith))
    (λ v. split_if Passes (b == 13) _ _ (λ e. (omega arith, λ r. omega arith))
    (λ w. split_if Passes (b == 27) _ _ (λ e. (omega arith, λ r. omega arith))
    (λ i. one_byte b x y z)))))))

text_passes : (t r : List ℕ) → piece_from false (flat_map escaped t ++ r)
    ≡ length (flat_map escaped t) + piece_from false r
text_passes [] r = omega arith
text_passes (b ∷ t) r =
    let e : (escaped b ++ flat_map escaped t) ++ r ≡ escaped b ++ (flat_map escaped t ++ r) =
    append_assoc (escaped b) (flat_map escaped t) r in
    let h : piece_from false (escaped b ++ (flat_map escaped t ++ r)) ≡ length (escaped b) + piece_from false
    (flat_map escaped t ++ r) = (escaped_passes b).1 (flat_map escaped t ++ r) in
    let i : piece_from false (flat_map escaped t ++ r) ≡ length (flat_map escaped t) + piece_from false r =
    text_passes t r in
    let g : length (escaped b ++ flat_map escaped t) ≡ length (escaped b) + length (flat_map escaped t) =
    length-append (escaped b) (flat_map escaped t) in
    ap (piece_from false) e ∙ omega (arith, h, i, g)

-- Escaped bytes are some where there were some.
pub escaped_some : (t : List ℕ) → t ≢ [] → 0 < length (flat_map escaped t)
escaped_some [] h = absurd (h refl)
escaped_some (b ∷ t) h =
    let g : length (escaped b ++ flat_map escaped t) ≡ length (escaped b) + length (flat_map escaped t) =
    length-append (escaped b) (flat_map escaped t) in
    let i : 0 < length (escaped b) = (escaped_passes b).0 in
    omega (arith, g, i)

some_more : (m : ℕ) → 0 < m → nat_lt 0 m ≡ true
some_more m h = grind (arith, nat_tests)

piece_found : (bs : List ℕ) (m : ℕ) → 0 < m → piece_len bs ≡ m → double_lexeme bs ≡ l.Token k.TextPiece m
piece_found bs m h e = let g : nat_lt 0 m ≡ true = some_more m h in rw (e, g) refl

-- The lexer takes a piece of a text as one token.
pub piece_lexeme : (s : State) (t r : List ℕ) → text_at s.opens ≡ Some q.Double → t ≢ [] → piece_len r ≡ 0 →
    lexeme s (flat_map escaped t ++ r) ≡ l.Token k.TextPiece (length (flat_map escaped t))
piece_lexeme s t r h n e =
    let i : 0 < length (flat_map escaped t) = escaped_some t n in
    let g : piece_len (flat_map escaped t ++ r) ≡ length (flat_map escaped t) =
    (let f : piece_from false (flat_map escaped t ++ r) ≡ length (flat_map escaped t) + piece_from false r =
    text_passes t r in omega (arith, f, e)) in
    let w : 0 < length (flat_map escaped t ++ r) = rw length-append (omega (arith, i)) in
    sym (front_double s (flat_map escaped t ++ r) (l.Token k.TextPiece (length (flat_map escaped t))) w (sym h)
    (sym (piece_found (flat_map escaped t ++ r) (length (flat_map escaped t)) i g)))
