-- Choices that were begun and are read on with a stack: what comes of one value behind them.
use Rattle.std.specs.Prelude.{◌≡◌, List, [], ◌∷◌, Option, Some, None, Result, Ok, Err, reverse}
use Rattle.descent.specs.Grammar.{Prod, give, token, call}
use Rattle.ruby_types.specs.declared.tree.Expr.{Expr}
use Rattle.ruby_types.specs.declared.tree.Expr.TheVariants as expr
use Rattle.ruby_grammar.specs.Words.{Word}
use Rattle.ruby_grammar.specs.Terminals.{is_colon}
use Rattle.ruby_grammar.specs.Rules.{ruby, Scope, an_expression, expression}
use Rattle.ruby_parse_cursor.specs.declared.fault.Fault.{Fault}
use Rattle.ruby_parse_steps.specs.declared.choices.Open.{Open}
use Rattle.ruby_parse_steps.specs.declared.choices.Open.TheVariants as begun
use Rattle.ruby_parse_steps.specs.Gives.{Gives, GivesRule}

-- the rest of a choice behind its first value
abbrev pub other_value : Scope → Expr → Expr → Prod ruby an_expression
other_value here test value = token is_colon λ _. call (expression here) λ c. give (expr.Choose test value c)

-- Behind a value of the choice that was begun last, which stands first here, the reading of all of them comes to this.
abbrev pub Behind : Scope → List Open → Expr → List Word → Result Expr Fault → List Word → Type 0
Behind here [] value ws r end = Gives {s = an_expression} (give value) ws r end
Behind here (begun.Other test first ∷ opens) value ws r end = Behind here opens (expr.Choose test first value) ws r end
Behind here (begun.Test test ∷ opens) value ws r end =
    (m : Result Expr Fault) × (mid : List Word) × Gives (other_value here test value) ws m mid
    × ((c : Expr) → m ≡ Ok c → Behind here opens c mid r end) × ((e : Fault) → m ≡ Err e → (r ≡ Err e) × (end ≡ mid))

-- the same, where the choice that was begun last stands last
abbrev pub BehindLast : Scope → List Open → Expr → List Word → Result Expr Fault → List Word → Type 0
BehindLast here opens value ws r end = Behind here (reverse opens) value ws r end

-- What ending the choices answered: the whole value, or choices of which the last goes on behind its `:`.
abbrev pub GivesEnded : Scope → List Open → Expr → List Word → Result (Option Expr) Fault → List Open → List Word →
    Type 0
GivesEnded here opens value ws (Ok (Some whole)) left rest = BehindLast here opens value ws (Ok whole) rest
GivesEnded here opens value ws (Ok None) left rest =
    ((c : Expr) (mid : List Word) (r : Result Expr Fault) (end : List Word) →
    GivesRule (expression here) rest (Ok c) mid → BehindLast here left c mid r end →
    BehindLast here opens value ws r end)
    × ((e : Fault) (end : List Word) → GivesRule (expression here) rest (Err e) end →
    BehindLast here opens value ws (Err e) end)
GivesEnded here opens value ws (Err e) left rest = BehindLast here opens value ws (Err e) rest
