-- What a pair of a hash begins with, by its terminal.
use Rattle.std.specs.Prelude.{ℕ, Bool, ◌==◌, ◌||◌}
use Rattle.ruby_parse_cursor.specs.Views.{expression_terminal}

-- a pair begins with a label, `key: value`, or with an expression, `key => value`
abbrev pub pair_terminal : ℕ → Bool
pair_terminal n = (n == 53) || expression_terminal n
