-- How pieces flow one after another.
use Rattle.std.proofs.Common.{◌≡◌, ℕ, suc, ◌+◌, ◌-◌, slice_index, ◌<◌, Bool, true, false, List, [], ◌∷◌, ◌++◌, length}
use Rattle.std.proofs.Common.{refl, ap, sym, subst, ◌∙◌, append_assoc, arith, None, ◌==◌}
use Rattle.std.specs.List.{prefix_len}
use Rattle.ruby_token.specs.declared.token.TokenKind.{TokenKind}
use Rattle.ruby_token.specs.declared.opens.Open.{Open}
use Rattle.ruby_token.specs.declared.state.State.{State}
use Rattle.ruby_token.specs.declared.state.After.TheVariants as a
use Rattle.ruby_token.specs.declared.lexeme.Lexeme.TheVariants as l
use Rattle.ruby_token.specs.Bytes.{Every, is_white, next_passes}
use Rattle.ruby_token.specs.Opens.{text_at}
use Rattle.ruby_token.specs.State.{state_after, ends_value, after_token, opens_after, brackets_after, last_of}
use Rattle.ruby_token.specs.Steps.{lexeme}
use Rattle.ruby_token.specs.Cut.{is_big}
use Rattle.ruby_print_pieces.specs.Pieces.{Piece, piece, bytes_of, behind_piece}
use Rattle.ruby_print_tokens.specs.Flows.{behind_gap, PassesGap, state_behind, Flows, stays, goes, place_behind}
use Rattle.ruby_print_tokens.specs.Flows.{IsSpaces, Begins, Ends}
use Rattle.ruby_print_tokens.proofs.BytesForms.{bytes-append}

-- ---- one after another

joined : (p : List ℕ) (ps qs : List Piece) (rest : List ℕ) → p ++ (bytes_of ps ++ (bytes_of qs ++ rest))
    ≡ p ++ (bytes_of (ps ++ qs) ++ rest)
joined p ps qs rest = ap (λ y. p ++ y) (sym (append_assoc (bytes_of ps) (bytes_of qs) rest)
    ∙ ap (λ y. y ++ rest) (sym (bytes-append ps qs)))

-- Pieces that are found one behind another are found together.
pub append : {rest : List ℕ} (qs : List Piece) {s mid end : State} {n : ℕ} {ps : List Piece} →
    Flows (bytes_of qs ++ rest) s n ps mid → Flows rest mid (place_behind n ps) qs end → Flows rest s n (ps ++ qs) end
append qs stays g = g
append {rest = rest} qs (goes {s = s} {p = p} {ps = ps} a b c d f) g =
    goes (subst (PassesGap s p.gap) (joined p.text ps qs rest) a)
    (subst (λ y. lexeme (behind_gap p.gap s) y ≡ l.Token p.kind (length p.text)) (joined p.text ps qs rest) b) c
    d (append qs f g)

-- These pieces are found, and the state is then so.
pub record Flown (rest : List ℕ) (s : State) (n : ℕ) (ps : List Piece) (P : State → Type 0) : Type 0 where
  pub end : State
  pub flows : Flows rest s n ps end
  pub so : P end

-- No pieces are found anywhere.
pub stay : {rest : List ℕ} {s : State} {n : ℕ} {P : State → Type 0} → P s → Flown rest s n [] P
stay {s = s} h = record { end = s; flows = stays; so = h }

-- What is found behind what was found is found with it.
pub and_then : {rest : List ℕ} {s : State} {n : ℕ} {P Q : State → Type 0} (ps qs : List Piece) →
    Flown (bytes_of qs ++ rest) s n ps P →
    ((mid : State) → P mid → Flown rest mid (place_behind n ps) qs Q) → Flown rest s n (ps ++ qs) Q
and_then ps qs f g = let h = g f.end f.so in record { end = h.end; flows = append qs f.flows h.flows; so = h.so }

-- What follows of the state behind is known there too.
pub so_also : {rest : List ℕ} {s : State} {n : ℕ} {ps : List Piece} {P Q : State → Type 0} →
    ((end : State) → P end → Q end) → Flown rest s n ps P → Flown rest s n ps Q
so_also f h = record { end = h.end; flows = h.flows; so = f h.end h.so }

-- A piece that is found comes before others.
pub one_goes : {rest : List ℕ} {s : State} {n : ℕ} {P : State → Type 0} (p : Piece) (ps : List Piece) →
    PassesGap s p.gap (p.text ++ (bytes_of ps ++ rest)) →
    lexeme (behind_gap p.gap s) (p.text ++ (bytes_of ps ++ rest)) ≡ l.Token p.kind (length p.text) →
    0 < length p.text → is_big p.kind p.text ≡ false →
    Flown rest (state_behind n p s) (behind_piece n p) ps P → Flown rest s n (p ∷ ps) P
one_goes p ps a b c d h = record { end = h.end; flows = goes a b c d h.flows; so = h.so }

-- ---- white before a piece

-- A run of bytes that pass ends where one doesn't.
pub exact_front : (p : ℕ → Bool) (t r : List ℕ) → Every p t → next_passes p r ≡ false → prefix_len p (t ++ r) ≡ length t
exact_front p [] [] h e = refl
exact_front p [] (b ∷ r) h e = rw e refl
exact_front p (b ∷ t) r h e =
    let g : p b ≡ true = h.0 in
    let i : prefix_len p (t ++ r) ≡ length t = exact_front p t r h.1 e in
    rw g (omega (arith, i))

spaces_white : (gap : List ℕ) → IsSpaces gap → Every is_white gap
spaces_white [] h = tt
spaces_white (b ∷ bs) h = (rw h.0 refl, spaces_white bs h.1)

-- White before a piece is passed over.
pub passes : (s : State) (gap bytes : List ℕ) → IsSpaces gap → text_at s.opens ≡ None →
    next_passes is_white bytes ≡ false → PassesGap s gap bytes
unfolding lexeme
passes s [] bytes h c e = tt
passes s (b ∷ bs) bytes h c e =
    let b_is : b ≡ 32 = h.0 in
    let i : prefix_len is_white (bs ++ bytes) ≡ length bs = exact_front is_white bs bytes (spaces_white bs h.1) e in
    rw (b_is, c) (ap l.Gap (omega (arith, i)))

opens_behind : (gap : List ℕ) (s : State) → (behind_gap gap s).opens ≡ s.opens
opens_behind [] s = refl
opens_behind (b ∷ bs) s = refl

after_behind : (gap : List ℕ) (s : State) → (behind_gap gap s).after ≡ s.after
after_behind [] s = refl
after_behind (b ∷ bs) s = refl

same_after : (kind : TokenKind) (text : List ℕ) (m : ℕ) (gap : List ℕ) (s : State) →
    state_after kind text m (behind_gap gap s) ≡ state_after kind text m s
same_after kind text m [] s = refl
same_after kind text m (b ∷ bs) s = refl

-- ---- the last byte

-- The last byte of a longer text is that of its rest.
pub last_more : (b c : ℕ) (t : List ℕ) → last_of (b ∷ c ∷ t) ≡ last_of (c ∷ t)
last_more b c t =
    let e : suc (suc (length t)) - 1 ≡ suc (suc (length t) - 1) = omega arith in
    ap (slice_index (b ∷ c ∷ t)) e

-- The last byte passes where all do.
pub last_passes : (p : ℕ → Bool) (b : ℕ) (t : List ℕ) → p b ≡ true → Every p t → p (last_of (b ∷ t)) ≡ true
last_passes p b [] h e = h
last_passes p b (c ∷ t) h e = ap p (last_more b c t) ∙ last_passes p c t e.0 e.1

last_space : (b : ℕ) (bs : List ℕ) → IsSpaces (b ∷ bs) → last_of (b ∷ bs) ≡ 32
last_space b [] h = h.0
last_space b (c ∷ bs) h = last_more b c bs ∙ last_space c bs h.1

-- ---- where an expression begins

-- in code, not behind a value, and not directly behind `:`
pub record Ready (s : State) : Type 0 where
  pub in_code : text_at s.opens ≡ None
  pub no_value : ends_value s.after ≡ false
  pub no_colon : (s.before == 58) ≡ false

colon_behind : (gap : List ℕ) (s : State) → IsSpaces gap → (gap ≡ [] → (s.before == 58) ≡ false) →
    ((behind_gap gap s).before == 58) ≡ false
colon_behind [] s h g = g refl
colon_behind (b ∷ bs) s h g = rw (last_space b bs h) refl

-- Behind its white a piece may begin.
pub ready : (gap : List ℕ) (s : State) → Begins s gap → Ready (behind_gap gap s)
ready gap s h = record {
  in_code = ap text_at (opens_behind gap s) ∙ h.in_code;
  no_value = ap ends_value (after_behind gap s) ∙ h.no_value;
  no_colon = colon_behind gap s h.spaces h.no_colon;
}

-- the first piece of an expression
pub begin : {rest : List ℕ} {s : State} {n : ℕ} {P : State → Type 0} (gap : List ℕ) (kind : TokenKind) (b : ℕ)
    (t : List ℕ) (ps : List Piece) → Begins s gap → is_white b ≡ false →
    ((z : State) → Ready z → lexeme z ((b ∷ t) ++ (bytes_of ps ++ rest)) ≡ l.Token kind (length (b ∷ t))) →
    is_big kind (b ∷ t) ≡ false →
    Flown rest (state_after kind (b ∷ t) (n + length gap) s) (behind_piece n (piece gap kind (b ∷ t))) ps P →
    Flown rest s n (piece gap kind (b ∷ t) ∷ ps) P
begin {rest = rest} {s = s} {n = n} {P = P} gap kind b t ps h w f d g =
    one_goes (piece gap kind (b ∷ t)) ps (passes s gap ((b ∷ t) ++ (bytes_of ps ++ rest)) h.spaces h.in_code w)
    (f (behind_gap gap s) (ready gap s h)) (omega arith) d
    (subst (λ z. Flown rest z (behind_piece n (piece gap kind (b ∷ t))) ps P)
    (sym (same_after kind (b ∷ t) (n + length gap) gap s)) g)

-- what a token that stands alone is to be
pub record Whole (kind : TokenKind) (text : List ℕ) : Type 0 where
  pub small : is_big kind text ≡ false
  pub opens : (n : ℕ) (xs : List Open) → opens_after kind text n xs ≡ xs
  pub brackets : (m : ℕ) → brackets_after kind m ≡ m
  pub value : after_token kind text ≡ a.Value
  pub no_colon : (last_of text == 58) ≡ false

-- an expression of one token
pub alone : (gap : List ℕ) (kind : TokenKind) (b : ℕ) (t : List ℕ) (s : State) (n : ℕ) (rest : List ℕ) →
    Begins s gap → is_white b ≡ false →
    ((z : State) → Ready z → lexeme z ((b ∷ t) ++ rest) ≡ l.Token kind (length (b ∷ t))) → Whole kind (b ∷ t) →
    Flown rest s n (piece gap kind (b ∷ t) ∷ []) (Ends s)
alone gap kind b t s n rest h w f k =
    begin gap kind b t [] h w f k.small (stay (record {
      opens = k.opens (n + length gap) s.opens;
      brackets = k.brackets s.brackets;
      after = k.value;
      no_colon = k.no_colon;
    }))
