-- The lexeme, by the place where it stands.
use Rattle.std.proofs.Common.{◌≡◌, ℕ, ◌<◌, List, [], ◌∷◌, length, slice_index, drop, arith, Some, None, ap, ◌∙◌}
use Rattle.ruby_token.specs.declared.opens.Quote.TheVariants as q
use Rattle.ruby_token.specs.declared.lexeme.Lexeme.{Lexeme}
use Rattle.ruby_token.specs.declared.state.State.{State}
use Rattle.ruby_token.specs.Opens.{text_at}
use Rattle.ruby_token.specs.Steps.{lexeme, lexeme_in, code_lexeme, double_lexeme, single_lexeme}

-- in code the answer by the first byte and those behind it is the lexer's; for the body of `next_lexeme`
pub front_code : (s : State) (bs : List ℕ) (x : Lexeme) → 0 < length bs → None ≡ text_at s.opens →
    x ≡ code_lexeme s (slice_index bs 0) (drop 1 bs) → x ≡ lexeme s bs
unfolding lexeme
front_code s [] x h e z = absurd (omega arith)
front_code s (b ∷ bs) x h e z = z ∙ ap (λ m. lexeme_in m s b bs) e

-- in double quotes the answer by the bytes at hand is the lexer's; for the body of `next_lexeme`
pub front_double : (s : State) (bs : List ℕ) (x : Lexeme) → 0 < length bs → Some q.Double ≡ text_at s.opens →
    x ≡ double_lexeme bs → x ≡ lexeme s bs
unfolding lexeme
front_double s [] x h e z = absurd (omega arith)
front_double s (b ∷ bs) x h e z = z ∙ ap (λ m. lexeme_in m s b bs) e

-- in single quotes the answer by the bytes at hand is the lexer's; for the body of `next_lexeme`
pub front_single : (s : State) (bs : List ℕ) (x : Lexeme) → 0 < length bs → Some q.Single ≡ text_at s.opens →
    x ≡ single_lexeme bs → x ≡ lexeme s bs
unfolding lexeme
front_single s [] x h e z = absurd (omega arith)
front_single s (b ∷ bs) x h e z = z ∙ ap (λ m. lexeme_in m s b bs) e
