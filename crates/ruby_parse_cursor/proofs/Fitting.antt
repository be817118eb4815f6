-- The first of some words, where it is a number.
use Rattle.std.proofs.Common.{◌≡◌, true, List, ◌∷◌, subst}
use Rattle.ruby_token.specs.Number.{is_in_range}
use Rattle.ruby_grammar.specs.Words.{Word}
use Rattle.ruby_grammar.specs.Terminals.{is_int}
use Rattle.ruby_grammar.specs.Choices.{next_is}
use Rattle.descent.specs.Reading.{head}
use Rattle.ruby_grammar.specs.Numbers.{NumbersFit}

-- A number at hand is in range.
pub first_fits : (l ws : List Word) (w : Word) → l ≡ w ∷ ws → NumbersFit l → next_is is_int (head l) ≡ true →
    is_in_range w.text ≡ true
first_fits l ws w e h is =
    let fit : NumbersFit (w ∷ ws) = subst NumbersFit e h in
    let int : is_int w ≡ true = subst (λ (m : List Word). next_is is_int (head m) ≡ true) e is in
    fit.0 int
