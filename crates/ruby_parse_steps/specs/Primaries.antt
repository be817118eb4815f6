-- How a primary is chosen by the terminal of its first word.
use Rattle.std.specs.Prelude.{◌≡◌, ℕ, Bool, false, ◌==◌, ◌||◌, List, [], ◌∷◌, Result, Ok, Err}
use Rattle.descent.specs.Grammar.{Prod, token, call}
use Rattle.descent.specs.Reading.{choose}
use Rattle.ruby_types.specs.declared.tree.Expr.{Expr}
use Rattle.ruby_grammar.specs.Words.{Word}
use Rattle.ruby_grammar.specs.Terminals.{is_tight_paren, is_close_paren}
use Rattle.ruby_grammar.specs.Rules.{ruby, Sort, Val, Rule, Scope, members}
use Rattle.ruby_grammar.specs.Expressions.{at_levels}
use Rattle.ruby_grammar.specs.Choices.{ruby_choices, deepen}
use Rattle.ruby_parse_cursor.specs.declared.fault.Fault.{Fault}
use Rattle.ruby_parse_steps.specs.Gives.{Gives, GivesRule}

-- a name, a text, a constant or a bracket
abbrev pub opens_bracket : ℕ → Bool
opens_bracket n = (n == 91) || (n == 93) || (n == 95)

-- a primary that begins so may have expressions inside it: a name, a text, a constant or a bracket
abbrev pub nests : ℕ → Bool
nests n = (n == 0) || (n == 56) || (n == 51) || (n == 86) || opens_bracket n

-- a quote that is `"`
abbrev pub begins_double : List ℕ → Bool
begins_double [] = false
begins_double (b ∷ bs) = b == 34

-- arguments in parentheses, and what follows them
abbrev pub arguments_then : {s : Sort} → Scope → (List Expr → Prod ruby s) → ℕ → Prod ruby s
arguments_then here next levels = token is_tight_paren λ _. call (members (at_levels here levels) []) λ args.
    token is_close_paren λ _. next args

-- What was returned of arguments is what any rule reads that goes on with them.
abbrev pub GivesArguments : Scope → List Word → Result (List Expr) Fault → List Word → Type 0
GivesArguments here ws (Ok args) rest = (s : Sort) (outer : Rule s) (next : List Expr → Prod ruby s) →
    choose ruby_choices outer ws ≡ deepen here.levels (arguments_then here next) →
    (r : Result (Val s) Fault) (end : List Word) → Gives (next args) rest r end → GivesRule outer ws r end
GivesArguments here ws (Err e) rest = (s : Sort) (outer : Rule s) (next : List Expr → Prod ruby s) →
    choose ruby_choices outer ws ≡ deepen here.levels (arguments_then here next) → GivesRule outer ws (Err e) rest
