-- The levels of operators, as the code has them.
use Rattle.std.specs.Prelude.{ℕ, Bool, false, ◌==◌, ◌||◌, ◌&&◌, nat_le}
use Rattle.ruby_parse_steps.specs.declared.operators.Level.{Level as Held}
use Rattle.ruby_parse_steps.specs.declared.operators.Level.TheVariants as held
use Rattle.ruby_grammar.specs.Terminals.{Level, units, products, sums, comparisons, equalities, conjunctions}
use Rattle.ruby_grammar.specs.Terminals.{disjunctions}

-- the level that is held, as the grammar has it
abbrev pub level_view : Held → Level
level_view held.Units = units
level_view held.Products = products
level_view held.Sums = sums
level_view held.Comparisons = comparisons
level_view held.Equalities = equalities
level_view held.Conjunctions = conjunctions
level_view held.Disjunctions = disjunctions

-- how loosely operators of a level bind
abbrev pub rank : Level → ℕ
rank units = 0
rank products = 1
rank sums = 2
rank comparisons = 3
rank equalities = 4
rank conjunctions = 5
rank disjunctions = 6

-- the next looser level, where there is one
abbrev pub looser : Level → Level
looser units = products
looser products = sums
looser sums = comparisons
looser comparisons = equalities
looser equalities = conjunctions
looser conjunctions = disjunctions
looser disjunctions = disjunctions

-- an operator of the level has this terminal
abbrev pub is_operator_terminal : Level → ℕ → Bool
is_operator_terminal disjunctions n = n == 70
is_operator_terminal conjunctions n = n == 71
is_operator_terminal equalities n = (n == 73) || (n == 74)
is_operator_terminal comparisons n = (n == 75) || (n == 76) || (n == 77) || (n == 78)
is_operator_terminal sums n = (n == 79) || (n == 80)
is_operator_terminal products n = (n == 81) || (n == 82) || (n == 83)
is_operator_terminal units n = false

-- the terminals from the first operator with two operands to the last one
abbrev pub is_any_operator : ℕ → Bool
is_any_operator n = nat_le 70 n && nat_le n 83
