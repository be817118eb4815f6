-- The lexer finds pieces one after another.
use Rattle.std.specs.Prelude.{◌≡◌, ℕ, ◌+◌, ◌<◌, Bool, true, false, List, [], ◌∷◌, ◌++◌, ◌==◌, ◌||◌, length, None}
use Rattle.ruby_token.specs.declared.token.Token.{Token}
use Rattle.ruby_token.specs.declared.state.State.{State}
use Rattle.ruby_token.specs.declared.state.After.TheVariants as a
use Rattle.ruby_token.specs.declared.lexeme.Lexeme.TheVariants as l
use Rattle.ruby_token.specs.Opens.{text_at}
use Rattle.ruby_token.specs.State.{state_past, state_after, ends_value}
use Rattle.ruby_token.specs.Steps.{lexeme}
use Rattle.ruby_token.specs.Cut.{is_big}
use Rattle.ruby_print_pieces.specs.Pieces.{Piece, bytes_of, behind_piece}

-- ---- white before a token

-- the state behind it
abbrev pub behind_gap : List ℕ → State → State
behind_gap [] s = s
behind_gap (b ∷ bs) s = state_past (b ∷ bs) s

-- it is found before these bytes, if there is any
abbrev pub PassesGap : State → List ℕ → List ℕ → Type 0
PassesGap s [] bytes = Unit {0}
PassesGap s (b ∷ bs) bytes = lexeme s ((b ∷ bs) ++ bytes) ≡ l.Gap (length (b ∷ bs))

-- the state behind a piece at this place
abbrev pub state_behind : ℕ → Piece → State → State
state_behind n p s = state_after p.kind p.text (n + length p.gap) (behind_gap p.gap s)

-- ---- pieces

-- From this state and place on the lexer finds these pieces, before these bytes, and is then in that state.
pub data Flows (rest : List ℕ) : State → ℕ → List Piece → State → Type 0 where
  stays : {s : State} {n : ℕ} → Flows rest s n [] s
  goes : {s end : State} {n : ℕ} {p : Piece} {ps : List Piece} → PassesGap s p.gap (p.text ++ (bytes_of ps ++ rest)) →
      lexeme (behind_gap p.gap s) (p.text ++ (bytes_of ps ++ rest)) ≡ l.Token p.kind (length p.text) →
      0 < length p.text → is_big p.kind p.text ≡ false →
      Flows rest (state_behind n p s) (behind_piece n p) ps end → Flows rest s n (p ∷ ps) end

-- the place behind pieces
abbrev pub place_behind : ℕ → List Piece → ℕ
place_behind n [] = n
place_behind n (p ∷ ps) = place_behind (behind_piece n p) ps

-- pieces as tokens, from this place on
abbrev pub tokens_at : ℕ → List Piece → List Token
tokens_at n [] = []
tokens_at n (p ∷ ps) = record { kind = p.kind; from = n + length p.gap; to = behind_piece n p } ∷ tokens_at
    (behind_piece n p) ps

-- ---- expressions

-- Each byte is a space.
abbrev pub IsSpaces : List ℕ → Type 0
IsSpaces [] = Unit {0}
IsSpaces (b ∷ bs) = (b ≡ 32) × IsSpaces bs

-- Behind an expression come the end, a line's end, white, or one of `)` `,` `.` `[` `]` `}`.
abbrev pub stops_by : ℕ → Bool
stops_by b = (b == 10) || (b == 32) || (b == 41) || (b == 44) || (b == 46) || (b == 91) || (b == 93) || (b == 125)

-- Whether the next byte goes on no name.
abbrev pub stops : List ℕ → Bool
stops [] = true
stops (b ∷ bs) = stops_by b

-- An expression may begin in this state behind this white: in code, not behind a value, and not directly behind `:`.
pub record Begins (s : State) (gap : List ℕ) : Type 0 where
  pub spaces : IsSpaces gap
  pub in_code : text_at s.opens ≡ None
  pub no_value : ends_value s.after ≡ false
  pub no_colon : gap ≡ [] → (s.before == 58) ≡ false

-- It leaves open what was open, and a value ends there.
pub record Ends (s end : State) : Type 0 where
  pub opens : end.opens ≡ s.opens
  pub brackets : end.brackets ≡ s.brackets
  pub after : end.after ≡ a.Value
  pub no_colon : (end.before == 58) ≡ false
