-- Where the tokens stand, and their texts.
use Rattle.std.specs.Prelude.{ℕ, ◌-◌, ◌<◌, ◌≤◌, List, [], ◌∷◌, take, drop, length}
use Rattle.ruby_token.specs.declared.token.Token.{Token}
use Rattle.ruby_token.specs.declared.state.State.{State}
use Rattle.ruby_token.specs.Lexemes.{token, Is}

-- the bytes of a token
abbrev pub text_of : List ℕ → Token → List ℕ
text_of bytes t = take (t.to - t.from) (drop t.from bytes)

-- a token's text is one of its kind, before the bytes that stand behind it
abbrev pub IsSpelled : List ℕ → Token → Type 0
IsSpelled bytes t = (s : State) × Is s (token t.kind) (text_of bytes t) (drop t.to bytes)

-- from this place on spans rise within the bytes, none is empty, and each token has its text
abbrev pub Spans : List ℕ → ℕ → List Token → Type 0
Spans bytes low [] = low ≤ length bytes
Spans bytes low (t ∷ ts) = (low ≤ t.from) × (t.from < t.to) × IsSpelled bytes t × Spans bytes t.to ts
