-- What the functions that read statements return, with the variables that are known behind it.
use Rattle.std.specs.Prelude.{ℕ, true, List, [], ◌∷◌, Option, Some, None, Result, Ok, Err}
use Rattle.ruby_types.specs.declared.tree.Expr.{Expr}
use Rattle.ruby_types.specs.declared.tree.Stmt.{Stmt}
use Rattle.ruby_types.specs.declared.tree.Stmt.TheVariants as stmt
use Rattle.ruby_grammar.specs.Words.{Word}
use Rattle.ruby_grammar.specs.Rules.{Name, Known, Block, condition_behind}
use Rattle.ruby_grammar.specs.Statements.{known, block}
use Rattle.ruby_parse_cursor.specs.declared.fault.Fault.{Fault}
use Rattle.ruby_parse_steps.specs.Gives.{GivesRule}
use Rattle.ruby_parse_statement.specs.declared.blocks.Block.{Block as Held}

-- a statement, or a fault
abbrev pub known_as : List Name → Result Stmt Fault → Result Known Fault
known_as names (Ok s) = Ok (known s names)
known_as names (Err e) = Err e

-- statements, or a fault
abbrev pub block_as : List Name → Result Held Fault → Result Block Fault
block_as names (Ok b) = Ok (block b.statements names b.closed)
block_as names (Err e) = Err e

-- a statement with the condition behind it, if there is one
abbrev pub conditioned : Stmt → Option Expr → Stmt
conditioned s None = s
conditioned s (Some x) = stmt.If ((x, s ∷ []) ∷ []) [] true

-- What was returned is the condition behind any statement.
abbrev pub GivesCondition : ℕ → List Name → List Word → Result (Option Expr) Fault → List Word → Type 0
GivesCondition levels names ws (Ok o) rest = (s : Stmt) →
    GivesRule (condition_behind levels (known s names)) ws (Ok (known (conditioned s o) names)) rest
GivesCondition levels names ws (Err e) rest = (s : Stmt) →
    GivesRule (condition_behind levels (known s names)) ws (Err e) rest
