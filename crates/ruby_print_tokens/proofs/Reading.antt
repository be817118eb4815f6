-- Pieces that the lexer finds one after another are the tokens of their bytes.
use Rattle.std.proofs.Common.{◌≡◌, ℕ, ◌+◌, ◌<◌, Bool, true, false, List, [], ◌∷◌, ◌++◌, length, refl, ap, sym, ◌∙◌}
use Rattle.std.proofs.Common.{take, drop, arith, append_assoc, append-nil, add-zero, length-append}
use Rattle.std.specs.Str.{IsUtf8}
use Rattle.std.specs.Str.Lossy.{utf8_valid_len}
use Rattle.std.proofs.lemmas.Bool.{eq-eqb}
use Rattle.std.proofs.lemmas.Str.{utf8_valid_len-IsUtf8}
use Rattle.std.proofs.lemmas.List.{take_all}
use Rattle.std.proofs.lemmas.Grind.{flat_map-append}
use Rattle.ruby_token.specs.declared.state.State.{State}
use Rattle.ruby_token.specs.declared.lexeme.Lexeme.TheVariants as l
use Rattle.ruby_token.specs.State.{start, state_past, state_after}
use Rattle.ruby_token.specs.Steps.{lexeme}
use Rattle.ruby_token.specs.Cut.{done, put, is_big, is_all_utf8, utf8_front, Lexes}
use Rattle.ruby_token.specs.Reading.{read}
use Rattle.ruby_token.proofs.ReadingLaws.{read_gap, read_token, token_at}
use Rattle.ruby_token.proofs.Words.{drop_front}
use Rattle.ruby_token.proofs.Cuts.{take_front, read_cut}
use Rattle.ruby_print_pieces.specs.Pieces.{Piece, piece_bytes, bytes_of, behind_piece}
use Rattle.ruby_print_tokens.specs.Flows.{behind_gap, PassesGap, state_behind, Flows, stays, goes, place_behind}
use Rattle.ruby_print_tokens.specs.Flows.{tokens_at}

-- ---- the bytes of pieces

-- The bytes of pieces one behind another are their bytes one behind another.
pub bytes_append : (ps qs : List Piece) → bytes_of (ps ++ qs) ≡ bytes_of ps ++ bytes_of qs
bytes_append ps qs = flat_map-append piece_bytes ps qs

-- ---- one run of pieces behind another

-- Pieces that are found one behind another are found together.
pub flows_append : {rest : List ℕ} {qs : List Piece} {s mid end : State} {n : ℕ} {ps : List Piece} →
    Flows (bytes_of qs ++ rest) s n ps mid → Flows rest mid (place_behind n ps) qs end → Flows rest s n (ps ++ qs) end
flows_append stays g = g
flows_append {rest} {qs} (goes {s = s} {p = p} {ps = ps} gap lex some big f) g =
    let e : bytes_of ps ++ (bytes_of qs ++ rest) ≡ bytes_of (ps ++ qs) ++ rest =
    rw (bytes_append ps qs) (sym (append_assoc (bytes_of ps) (bytes_of qs) rest)) in
    goes (rw e at gap) (rw e at lex) some big (flows_append f g)

-- ---- reading

read_past : (v : Bool) (s : State) (n : ℕ) (g bs : List ℕ) → PassesGap s g bs →
    read v s n 0 (g ++ bs) ≡ read v (behind_gap g s) (n + length g) 0 bs
read_past v s n [] bs h = ap (λ m. read v s m 0 bs) (sym (add-zero n))
read_past v s n (b ∷ g) bs h =
    read_gap v s n (length (b ∷ g)) ((b ∷ g) ++ bs) h (omega arith) (omega arith)
    ∙ ap (λ x. read v (state_past x s) (n + length (b ∷ g)) 0 (drop (length (b ∷ g)) ((b ∷ g) ++ bs)))
    (take_front (b ∷ g) bs)
    ∙ ap (read v (state_past (b ∷ g) s) (n + length (b ∷ g)) 0) (drop_front (b ∷ g) bs)

flows_read : {s end : State} {n : ℕ} {ps : List Piece} → Flows [] s n ps end → end.opens ≡ [] →
    read true s n 0 (bytes_of ps) ≡ done (tokens_at n ps)
flows_read (stays {s = s} {n = n}) o = rw o
flows_read (goes {s = s} {n = n} {p = p} {ps = ps} gap lex some big f) o =
    let gap' : PassesGap s p.gap (p.text ++ bytes_of ps) = rw append-nil at gap in
    let lex' : lexeme (behind_gap p.gap s) (p.text ++ bytes_of ps) ≡ l.Token p.kind (length p.text) =
    rw append-nil at lex in
    let tf : take (length p.text) (p.text ++ bytes_of ps) ≡ p.text = take_front p.text (bytes_of ps) in
    let wide : 0 < length (p.text ++ bytes_of ps) = rw length-append (omega arith) in
    let big' : is_big p.kind (take (length p.text) (p.text ++ bytes_of ps)) ≡ false = rw tf big in
    ap (read true s n 0) (append_assoc p.gap p.text (bytes_of ps))
    ∙ read_past true s n p.gap (p.text ++ bytes_of ps) gap'
    ∙ read_token true (behind_gap p.gap s) (n + length p.gap) (length p.text) p.kind
    (p.text ++ bytes_of ps) lex' some wide big'
    ∙ ap (λ x. put (token_at p.kind (n + length p.gap) (length p.text) ∷ [])
    (read true (state_after p.kind x (n + length p.gap) (behind_gap p.gap s)) (behind_piece n p) 0
    (drop (length p.text) (p.text ++ bytes_of ps)))) tf
    ∙ ap (λ x. put (token_at p.kind (n + length p.gap) (length p.text) ∷ [])
    (read true (state_behind n p s) (behind_piece n p) 0 x)) (drop_front p.text (bytes_of ps))
    ∙ ap (put (token_at p.kind (n + length p.gap) (length p.text) ∷ [])) (flows_read f o)

-- bytes that are UTF-8 are cut into their tokens
pub flows_lexes : {end : State} {ps : List Piece} → IsUtf8 (bytes_of ps) → Flows [] start 0 ps end → end.opens ≡ [] →
    Lexes (bytes_of ps) (done (tokens_at 0 ps))
flows_lexes {ps = ps} u f o =
    let size : utf8_valid_len (bytes_of ps) ≡ length (bytes_of ps) = utf8_valid_len-IsUtf8 (bytes_of ps) u in
    let all : is_all_utf8 (bytes_of ps) ≡ true = rw size (eq-eqb _ _ refl) in
    let front : utf8_front (bytes_of ps) ≡ bytes_of ps =
    rw size (take_all (length (bytes_of ps)) (bytes_of ps) (omega arith)) in
    rw (all, front, ← (flows_read f o)) (read_cut true (bytes_of ps) start 0 0)
