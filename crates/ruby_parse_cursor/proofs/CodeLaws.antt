-- The code of the word at hand, and its terminal.
use Rattle.std.proofs.Common.{◌≡◌, ℕ, Bool, true, false, ◌&&◌, ◌==◌, List, [], ◌∷◌, Some, None, refl, sym}
use Rattle.std.proofs.Common.{subst, ap, ◌∙◌, ⊎_elim}
use Rattle.std.specs.Prelude.{nat_le}
use Rattle.std.proofs.lemmas.Bool.{cases_Bool, cond-true, cond-false, eqb-true, eq-eqb}
use Rattle.std.proofs.lemmas.Option.{none-some, same_Some}
use Rattle.descent.specs.Reading.{head}
use Rattle.ruby_grammar.specs.Words.{Word}
use Rattle.ruby_grammar.specs.Terminals.{terminal, is}
use Rattle.ruby_grammar.specs.Choices.{next_is}
use Rattle.ruby_parse_cursor.specs.Views.{head_terminal, code_view}

abbrev is_code : ℕ → Bool
is_code n = nat_le 1 n && nat_le n 47

-- a word with a code has it as its terminal
pub code_is : (n c : ℕ) → code_view n ≡ Some c → n ≡ c
code_is n c e =
    ⊎_elim
    (λ y. same_Some n c (sym (cond-true (is_code n) (Some n) None y) ∙ e))
    (λ o. absurd (none-some c (sym (cond-false (is_code n) (Some n) None o) ∙ e)))
    (cases_Bool (is_code n))

-- the word at hand has this code, so it is this word
pub sees_code : (ws : List Word) (c : ℕ) → code_view (head_terminal ws) ≡ Some c → next_is (is c) (head ws) ≡ true
sees_code [] c e = absurd (none-some c e)
sees_code (w ∷ ws) c e = subst (λ n. (n == c) ≡ true) (sym (code_is (terminal w) c e)) (eq-eqb c c refl)

-- the word at hand has another code or none, so it isn't this word
pub lacks_code : (ws : List Word) (c : ℕ) → is_code c ≡ true → (code_view (head_terminal ws) ≡ Some c → ⊥) →
    next_is (is c) (head ws) ≡ false
lacks_code [] c y h = refl
lacks_code (w ∷ ws) c y h =
    ⊎_elim
    (λ e. absurd (h (ap code_view (eqb-true (terminal w) c e) ∙ cond-true (is_code c) (Some c) None y)))
    (λ o. o)
    (cases_Bool (terminal w == c))

-- the word at hand has another code, so it isn't this word
pub other_code : (ws : List Word) (c d : ℕ) → code_view (head_terminal ws) ≡ Some c → (c == d) ≡ false →
    next_is (is d) (head ws) ≡ false
other_code [] c d e h = refl
other_code (w ∷ ws) c d e h = subst (λ n. (n == d) ≡ false) (sym (code_is (terminal w) c e)) h
