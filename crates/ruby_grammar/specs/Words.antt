-- The words of which the grammar speaks: tokens with their texts.
use Rattle.std.specs.Prelude.{ℕ, Bool, ◌==◌, List, [], ◌∷◌}
use Rattle.ruby_token.specs.declared.token.Token.{Token}
use Rattle.ruby_token.specs.declared.token.TokenKind.{TokenKind}
use Rattle.ruby_token.specs.Spans.{text_of}

-- A word: its kind, its text, whether it stands directly behind the word before it, and its place, which no rule
-- looks at.
pub record Word : Type 0 where
  pub kind : TokenKind
  pub text : List ℕ
  pub tight : Bool
  pub at : ℕ

-- the words of these tokens, where the token before them ends at this place
abbrev pub words_behind : List ℕ → ℕ → List Token → List Word
words_behind bytes end [] = []
words_behind bytes end (t ∷ ts) =
    record { kind = t.kind; text = text_of bytes t; tight = end == t.from; at = t.from } ∷ words_behind bytes t.to ts

-- the words of a file's tokens
abbrev pub words_of : List ℕ → List Token → List Word
words_of bytes ts = words_behind bytes 0 ts
