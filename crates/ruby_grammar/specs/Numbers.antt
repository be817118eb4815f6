-- Numbers in range.
use Rattle.std.specs.Prelude.{◌≡◌, true, List, [], ◌∷◌}
use Rattle.ruby_token.specs.Number.{is_in_range}
use Rattle.ruby_grammar.specs.Words.{Word}
use Rattle.ruby_grammar.specs.Terminals.{is_int}

-- each number among the words is from -2^63 to 2^63 - 1
abbrev pub NumbersFit : List Word → Type 0
NumbersFit [] = Unit {0}
NumbersFit (w ∷ ws) = (is_int w ≡ true → is_in_range w.text ≡ true) × NumbersFit ws
