-- Runs of pieces: from which states, before which bytes and to which states the lexer finds them.
use Rattle.std.proofs.Common.{◌≡◌, ℕ, Bool, true, false, List, [], ◌∷◌, ◌++◌, ◌==◌, not, length, refl, ap, ◌∙◌, arith}
use Rattle.std.specs.List.{prefix_len}
use Rattle.ruby_token.specs.declared.token.TokenKind.{TokenKind}
use Rattle.ruby_token.specs.declared.state.State.{State}
use Rattle.ruby_token.specs.declared.state.After.{After}
use Rattle.ruby_token.specs.declared.state.After.TheVariants as a
use Rattle.ruby_token.specs.declared.lexeme.Lexeme.TheVariants as l
use Rattle.ruby_token.specs.Bytes.{Every, is_white}
use Rattle.ruby_token.specs.State.{ends_value, joins}
use Rattle.ruby_token.specs.Steps.{lexeme, lexeme_in, code_lexeme}
use Rattle.ruby_token.specs.Opens.{text_at}
use Rattle.ruby_token.specs.Cut.{is_big}
use Rattle.ruby_token.proofs.Cuts.{lexeme_by}
use Rattle.ruby_token.proofs.Words.{exactly}
use Rattle.ruby_print_pieces.specs.Pieces.{Piece, piece, bytes_of}
use Rattle.ruby_print_tokens.specs.Flows.{behind_gap, PassesGap, state_behind, Flows, stays, goes, place_behind}
use Rattle.ruby_print_tokens.specs.Flows.{IsSpaces}
use Rattle.ruby_print_tokens.proofs.Reading.{flows_append}

-- ---- runs

-- from states that pass, before bytes that pass, to states that pass
abbrev pub Run : (State → Type 0) → (List ℕ → Type 0) → List Piece → (State → Type 0) → Type 0
Run P R ps Q = (s : State) (n : ℕ) (rest : List ℕ) → P s → R rest → (end : State) × Flows rest s n ps end × Q end

-- No pieces run from anywhere to there.
pub nothing : {P : State → Type 0} (R : List ℕ → Type 0) → Run P R [] P
nothing R s n rest p r = (s, stays, p)

-- Runs one behind another are one run.
pub behind : {P M Q : State → Type 0} {R R' : List ℕ → Type 0} {ps qs : List Piece} → Run P R ps M →
    ((rest : List ℕ) → R' rest → R (bytes_of qs ++ rest)) → Run M R' qs Q → Run P R' (ps ++ qs) Q
behind {ps = ps} {qs = qs} f h g s n rest p r =
    let x = f s n (bytes_of qs ++ rest) p (h rest r) in
    let y = g x.0 (place_behind n ps) rest x.2 r in
    (y.0, flows_append x.1 y.1, y.2)

-- A run from fewer states, before fewer bytes, to more states.
pub weaker : {P P' Q Q' : State → Type 0} {R R' : List ℕ → Type 0} {ps : List Piece} → ((s : State) → P' s → P s) →
    ((rest : List ℕ) → R' rest → R rest) → ((s : State) → Q s → Q' s) → Run P R ps Q → Run P' R' ps Q'
weaker f g h run s n rest p r = let x = run s n rest (f s p) (g rest r) in (x.0, x.1, h x.0 x.2)

-- ---- states in code

-- Whatever the last token was.
abbrev pub any : After → Bool
any x = true

-- no value ends here
abbrev pub no_value : After → Bool
no_value x = not (ends_value x)

-- the text doesn't go on over a line's end
abbrev pub no_join : After → Bool
no_join x = not (joins x)

-- The last token ends no value and joins nothing.
abbrev pub is_other : After → Bool
is_other a.Other = true
is_other _ = false

-- no text is open, but so many brackets, and what the last token was passes
pub record Code (open_brackets : ℕ) (ok : After → Bool) (s : State) : Type 0 where
  pub opens : s.opens ≡ []
  pub brackets : s.brackets ≡ open_brackets
  pub after : ok s.after ≡ true

-- where a line begins
pub record Fresh (s : State) : Type 0 where
  pub code : Code 0 no_value s
  pub before : (s.before == 58) ≡ false

-- where a line may end
abbrev pub Closed : State → Type 0
Closed s = Code 0 no_join s

-- A state of code, whatever its last token was.
pub code_any : {m : ℕ} {ok : After → Bool} (s : State) → Code m ok s → Code m any s
code_any s c = record { opens = c.opens; brackets = c.brackets; after = refl }

other_no_value : (x : After) → is_other x ≡ true → no_value x ≡ true
other_no_value a.Value h = cc
other_no_value a.Joins h = cc
other_no_value a.Other h = refl

other_no_join : (x : After) → is_other x ≡ true → no_join x ≡ true
other_no_join a.Value h = cc
other_no_join a.Joins h = cc
other_no_join a.Other h = refl

-- A state behind another token ends no value.
pub code_no_value : {m : ℕ} (s : State) → Code m is_other s → Code m no_value s
code_no_value s c = record { opens = c.opens; brackets = c.brackets; after = other_no_value s.after c.after }

-- A state behind another token joins nothing.
pub code_no_join : {m : ℕ} (s : State) → Code m is_other s → Code m no_join s
code_no_join s c = record { opens = c.opens; brackets = c.brackets; after = other_no_join s.after c.after }

-- white before a token changes nothing of this
pub code_gap : {m : ℕ} {ok : After → Bool} {s : State} (gap : List ℕ) → Code m ok s → Code m ok (behind_gap gap s)
code_gap [] c = c
code_gap (b ∷ gap) c = record { opens = c.opens; brackets = c.brackets; after = c.after }

-- ---- one piece

-- Outside texts a byte is looked at as code.
pub in_code : (s : State) (b : ℕ) (bs : List ℕ) → s.opens ≡ [] → lexeme s (b ∷ bs) ≡ code_lexeme s b bs
in_code s b bs h = lexeme_by s b bs ∙ ap (λ x. lexeme_in (text_at x) s b bs) h

all_white : (gap : List ℕ) → IsSpaces gap → Every is_white gap
all_white [] h = tt
all_white (b ∷ gap) h = (rw h.0 refl, all_white gap h.1)

passes_gap : (s : State) (gap : List ℕ) (c : ℕ) (cs : List ℕ) → s.opens ≡ [] → IsSpaces gap → is_white c ≡ false →
    PassesGap s gap (c ∷ cs)
passes_gap s [] c cs o h w = tt
passes_gap s (b ∷ gap) c cs o h w =
    let e : b ≡ 32 = h.0 in
    let size : prefix_len is_white (gap ++ c ∷ cs) ≡ length gap = exactly is_white gap c cs (all_white gap h.1) w in
    in_code s b (gap ++ c ∷ cs) o ∙ rw e (ap l.Gap (rw size (omega arith)))

-- one token, in code
pub token_flow : {s : State} {rest : List ℕ} {n : ℕ} (gap : List ℕ) (kind : TokenKind) (c : ℕ) (cs : List ℕ) →
    s.opens ≡ [] → IsSpaces gap → is_white c ≡ false →
    code_lexeme (behind_gap gap s) c (cs ++ rest) ≡ l.Token kind (length (c ∷ cs)) → is_big kind (c ∷ cs) ≡ false →
    Flows rest s n (piece gap kind (c ∷ cs) ∷ []) (state_behind n (piece gap kind (c ∷ cs)) s)
token_flow {s} {rest} gap kind c cs o h w e big =
    goes (passes_gap s gap c (cs ++ rest) o h w) (in_code (behind_gap gap s) c (cs ++ rest) (opens_gap gap o) ∙ e)
    (omega arith) big stays
  where
    opens_gap : (g : List ℕ) → s.opens ≡ [] → (behind_gap g s).opens ≡ []
    opens_gap [] p = p
    opens_gap (b ∷ g) p = p
