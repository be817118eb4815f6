-- Lists of names that answer the same, whatever their order.
use Rattle.std.specs.Prelude.{◌≡◌, ℕ, List}
use Rattle.ruby_grammar.specs.Terminals.{has}

-- looking up any name answers the same in both lists
abbrev pub HasSame : List (List ℕ) → List (List ℕ) → Type 0
HasSame xs ys = (name : List ℕ) → has xs name ≡ has ys name
