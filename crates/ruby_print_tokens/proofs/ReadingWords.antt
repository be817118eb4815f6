-- The words of pieces' tokens.
use Rattle.std.proofs.Common.{◌≡◌, ℕ, ◌+◌, ◌-◌, ◌==◌, Bool, List, [], ◌∷◌, ◌++◌, length, refl, ap, ◌∙◌, take, drop}
use Rattle.std.proofs.Common.{arith, append_assoc, add-zero, length-append}
use Rattle.std.proofs.lemmas.Bool.{eq-eqb}
use Rattle.std.proofs.lemmas.Bool.Decides.{nat_tests}
use Rattle.ruby_token.specs.declared.token.Token.{Token}
use Rattle.ruby_token.specs.declared.token.TokenKind.{TokenKind}
use Rattle.ruby_token.proofs.Words.{drop_front}
use Rattle.ruby_token.proofs.Cuts.{take_front}
use Rattle.ruby_token.specs.Spans.{text_of}
use Rattle.ruby_grammar.specs.Words.{Word, words_behind, words_of}
use Rattle.ruby_print_pieces.specs.Pieces.{Piece, piece_bytes, bytes_of, is_empty, word_at, behind_piece, words_at}
use Rattle.ruby_print_tokens.specs.Flows.{tokens_at}

drop_past : (front gap r : List ℕ) → drop (length front + length gap) (front ++ (gap ++ r)) ≡ r
drop_past front gap r = rw (← (append_assoc front gap r), ← (length-append front gap)) (drop_front (front ++ gap) r)

text_between : (front gap text rest : List ℕ) →
    take ((length front + length gap + length text) - (length front + length gap))
    (drop (length front + length gap) (front ++ ((gap ++ text) ++ rest))) ≡ text
text_between front gap text rest =
    let e : (length front + length gap + length text) - (length front + length gap) ≡ length text = omega arith in
    rw (e, append_assoc gap text rest, drop_past front gap (text ++ rest)) (take_front text rest)

is_tight : (n : ℕ) (gap : List ℕ) → (n == n + length gap) ≡ is_empty gap
is_tight n [] = rw add-zero (eq-eqb n n refl)
is_tight n (b ∷ gap) = grind (arith, nat_tests)

abbrev token_of : ℕ → Piece → Token
token_of n p = record { kind = p.kind; from = n + length p.gap; to = behind_piece n p }

abbrev word : TokenKind → ℕ → List ℕ → Bool → Word
word kind at text tight = record { kind = kind; text = text; tight = tight; at = at }

abbrev word_of : List ℕ → ℕ → Token → Word
word_of bytes end t = word t.kind t.from (text_of bytes t) (end == t.from)

words_from : (front : List ℕ) (ps : List Piece) →
    words_behind (front ++ bytes_of ps) (length front) (tokens_at (length front) ps) ≡ words_at (length front) ps
words_from front [] = refl
words_from front (p ∷ ps) =
    let size : behind_piece (length front) p ≡ length (front ++ piece_bytes p) = rw (length-append, length-append)
    (omega arith) in
    let here : word_of (front ++ bytes_of (p ∷ ps)) (length front) (token_of (length front) p)
    ≡ word_at (length front) p =
    ap (λ x. word p.kind (length front + length p.gap) x (length front == length front + length p.gap))
    (text_between front p.gap p.text (bytes_of ps))
    ∙ ap (word p.kind (length front + length p.gap) p.text) (is_tight (length front) p.gap)
    in
    let rest : words_behind (front ++ bytes_of (p ∷ ps)) (behind_piece (length front) p)
    (tokens_at (behind_piece (length front) p) ps) ≡ words_at (behind_piece (length front) p) ps =
    rw (size, ← (append_assoc front (piece_bytes p) (bytes_of ps))) (words_from (front ++ piece_bytes p) ps)
    in
    ap (λ x. x ∷ words_behind (front ++ bytes_of (p ∷ ps)) (behind_piece (length front) p)
    (tokens_at (behind_piece (length front) p) ps)) here
    ∙ ap (λ x. word_at (length front) p ∷ x) rest

-- The words of pieces' tokens are the pieces' words.
pub words_of_pieces : (ps : List Piece) → words_of (bytes_of ps) (tokens_at 0 ps) ≡ words_at 0 ps
words_of_pieces ps = words_from [] ps
