-- The words of the grammar, as the parser has them.
use Rattle.std.specs.Prelude.{ℕ, Bool, ◌==◌, ◌&&◌, ◌||◌, nat_le, if◌then◌else◌, List, [], ◌∷◌, Option, Some, None}
use Rattle.ruby_parse_cursor.specs.declared.word.Word.{Word as Held}
use Rattle.ruby_grammar.specs.Words.{Word}
use Rattle.ruby_grammar.specs.Terminals.{terminal}

-- the word that is held
abbrev pub word_view : Held → Word
word_view w = record { kind = w.kind; text = w.text.now; tight = w.tight; at = w.at }

-- the terminal of the first word, and 98 where none is left
abbrev pub head_terminal : List Word → ℕ
head_terminal [] = 98
head_terminal (w ∷ ws) = terminal w

-- the code of a reserved or a left-out word, by its terminal
abbrev pub code_view : ℕ → Option ℕ
code_view n = if nat_le 1 n && nat_le n 47 then Some n else None

-- left-out words and operators, and what expressions and statements begin with, by their terminals
abbrev pub left_out_terminal : ℕ → Bool
left_out_terminal n = (nat_le 18 n && nat_le n 47) || (n == 99)

-- an expression begins with a literal, `self`, a name, a constant, `::`, an instance variable, a bracket, `!` or `-`
abbrev pub expression_terminal : ℕ → Bool
expression_terminal n =
    (n == 55) || (n == 56) || (n == 54) || (n == 12) || (n == 13) || (n == 14) || (n == 11) || (n == 0) ||
    (n == 52) || (n == 86) || (n == 51)
    || (n == 93) || (n == 95) || (n == 91) || (n == 72) || (n == 80)

-- a statement begins with `if`, `unless`, `return` or `raise`, or as an expression does
abbrev pub statement_terminal : ℕ → Bool
statement_terminal n = expression_terminal n || (n == 10) || (n == 15) || (n == 5) || (n == 8)
