-- Whether `=` is at hand, by its kind alone.
use Rattle.std.proofs.Common.{◌≡◌, ℕ, ◌<◌, ◌≤◌, Bool, false, ◌==◌, List, [], ◌∷◌, length, drop, take, ◌-◌, refl, sym}
use Rattle.std.proofs.Common.{◌∙◌, ap}
use Rattle.std.proofs.Common.{arith, get_or}
use Rattle.ruby_token.specs.Spans.{text_of}
use Rattle.std.proofs.lemmas.Bool.Decides.{nat_tests}
use Rattle.std.proofs.lemmas.List.{take_all}
use Rattle.descent.specs.Reading.{head, second}
use Rattle.ruby_token.specs.declared.token.Op.{Op}
use Rattle.ruby_token.specs.declared.token.Token.{Token}
use Rattle.ruby_token.specs.declared.token.TokenKind.{TokenKind}
use Rattle.ruby_token.specs.declared.token.TokenKind.TheVariants as k
use Rattle.ruby_grammar.specs.Words.{Word, words_behind}
use Rattle.ruby_grammar.specs.Terminals.{kind_terminal, is_assign}
use Rattle.ruby_grammar.specs.Choices.{next_is}
use Rattle.ruby_parse_cursor.proofs.Codes.{name_is_low}

low_is_no_assign : (n : ℕ) → n < 48 → false ≡ (n == 89)
low_is_no_assign n h = grind (arith, nat_tests)

-- What is no operator is no `=`.
pub no_assign : (kind : TokenKind) (text : List ℕ) → ((op : Op) → kind ≡ k.Op op → ⊥) →
    false ≡ (kind_terminal kind text == 89)
no_assign k.Line text h = refl
no_assign k.Name text h = low_is_no_assign _ (name_is_low text)
no_assign k.Const text h = refl
no_assign k.Ivar text h = refl
no_assign k.Label text h = refl
no_assign k.Sym text h = refl
no_assign k.Int text h = refl
no_assign k.TextOpen text h = refl
no_assign k.TextPiece text h = refl
no_assign k.InsideOpen text h = refl
no_assign k.InsideClose text h = refl
no_assign k.TextClose text h = refl
no_assign (k.Op op) text h = absurd (h op refl)

-- What is known of the tokens behind the first is known of the second word.
pub second_word : (bytes : List ℕ) (before : ℕ) (tokens : List Token) (ws : List Word) (seen : Bool) →
    ws ≡ words_behind bytes before tokens → 1 ≤ length tokens →
    ((b : List ℕ) (n : ℕ) →
    seen ≡ next_is is_assign (head (words_behind b n (take (length tokens - 1) (drop 1 tokens))))) →
    seen ≡ next_is is_assign (second ws)
second_word bytes before [] ws seen e h s = absurd (omega (arith, h))
second_word bytes before (t ∷ ts) ws seen e h s =
    s bytes t.to
    ∙ ap (λ l. next_is is_assign (head (words_behind bytes t.to l))) (take_all (length (t ∷ ts) - 1) ts (omega arith))
    ∙ ap (λ l. next_is is_assign (second l)) (sym e)

-- What is known of the first token is known of the first word.
pub first_word : (none : Token) (tokens : List Token) (seen : Bool) → 1 ≤ length tokens →
    ((text : List ℕ) → seen ≡ (kind_terminal (get_or tokens 0 none).kind text == 89)) →
    (bytes : List ℕ) (before : ℕ) → seen ≡ next_is is_assign (head (words_behind bytes before tokens))
first_word none [] seen h s bytes before = absurd (omega (arith, h))
first_word none (t ∷ ts) seen h s bytes before = s (text_of bytes t)
