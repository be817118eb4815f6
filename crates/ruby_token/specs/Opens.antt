-- What is open at a place: the innermost first.
use Rattle.std.specs.Prelude.{ℕ, Bool, true, false, List, [], ◌∷◌, Option, Some, None, reverse}
use Rattle.ruby_token.specs.declared.opens.Quote.{Quote}
use Rattle.ruby_token.specs.declared.opens.Open.{Open}
use Rattle.ruby_token.specs.declared.opens.Open.TheVariants as o

-- the innermost of what is open
abbrev pub top_of : List Open → Option Open
top_of [] = None
top_of (x ∷ xs) = Some x

-- the quote of the text that a place stands in; none in code, which an inside part of a text is too
abbrev pub text_at : List Open → Option Quote
text_at [] = None
text_at (o.Text q n ∷ xs) = Some q
text_at (o.Inside ∷ xs) = None
text_at (o.Brace ∷ xs) = None

-- an inside part is open, and no brace in it
abbrev pub in_inside : List Open → Bool
in_inside [] = false
in_inside (o.Text q n ∷ xs) = false
in_inside (o.Inside ∷ xs) = true
in_inside (o.Brace ∷ xs) = false

-- the place of the first text's quote
abbrev pub first_text : List Open → Option ℕ
first_text [] = None
first_text (o.Text q n ∷ xs) = Some n
first_text (o.Inside ∷ xs) = first_text xs
first_text (o.Brace ∷ xs) = first_text xs

-- the place of the outermost text's quote
abbrev pub outermost : List Open → Option ℕ
outermost xs = first_text (reverse xs)
