-- The arms of a block `if` or `unless`, as the code reads them.
use Rattle.std.specs.Prelude.{Bool, true, false, not, List, [], Result, Ok, Err}
use Rattle.ruby_types.specs.declared.tree.Expr.{Expr}
use Rattle.ruby_types.specs.declared.tree.Expr.TheVariants as expr
use Rattle.ruby_types.specs.declared.tree.Stmt.{Stmt}
use Rattle.ruby_types.specs.declared.tree.Stmt.TheVariants as stmt
use Rattle.descent.specs.Grammar.{Prod, call}
use Rattle.ruby_grammar.specs.Words.{Word}
use Rattle.ruby_grammar.specs.Rules.{ruby, Name, Known, Around, Scope, a_statement, arms_rest, expression, then_or_line}
use Rattle.ruby_grammar.specs.Statements.{known, block, behind, arm_from, else_more}
use Rattle.ruby_parse_cursor.specs.declared.fault.Fault.{Fault}
use Rattle.ruby_parse_steps.specs.Gives.{Gives, GivesRule}

-- the condition of an arm, which `unless` turns round
abbrev pub tested : Bool → Expr → Expr
tested true x = expr.Not x
tested false x = x

-- a condition with its `then` or Line, and what follows them
abbrev pub test_then : Scope → Bool → (Expr → Prod ruby a_statement) → Prod ruby a_statement
test_then here is_unless next = call (expression here) λ x. call then_or_line λ _. next (tested is_unless x)

-- With the condition that was returned, what follows it goes on from the words that are left.
abbrev pub GivesTest : Scope → Bool → List Word → Result Expr Fault → List Word → Type 0
GivesTest here is_unless ws (Ok x) rest = (next : Expr → Prod ruby a_statement) (r : Result Known Fault)
    (end : List Word) → Gives (next x) rest r end → Gives (test_then here is_unless next) ws r end
GivesTest here is_unless ws (Err e) rest = (next : Expr → Prod ruby a_statement) →
    Gives (test_then here is_unless next) ws (Err e) rest

-- an arm behind those, and what follows it: behind `unless` no `elsif`
abbrev pub arm_then : Around → Bool → List (Expr × List Stmt) → Prod ruby a_statement
arm_then here is_unless arms = arm_from here.levels here.sets (not is_unless) (tested is_unless) here.names arms

-- What follows these arms is read so. Of the last arm's statements it matters only whether the last one has its Line.
abbrev pub GivesRest : Around → Bool → List (Expr × List Stmt) → Bool → List Word → Result Known Fault → List Word →
    Type 0
GivesRest here is_unless arms closed ws r rest = (ss : List Stmt) →
    GivesRule (arms_rest here.levels here.sets (not is_unless) arms (block ss here.names closed)) ws r rest

-- With the arms that are there now, the variables that are known, and whether the last statement has its Line, what
-- follows
-- the arms goes on from the words that are left.
abbrev pub GivesArms : Around → Bool → List (Expr × List Stmt) → List Word → Result Bool Fault →
    List (Expr × List Stmt) → List Name → List Word → Type 0
GivesArms here is_unless arms ws (Ok closed) longer names rest = (r : Result Known Fault) (end : List Word) →
    GivesRest (behind here names) is_unless longer closed rest r end → Gives (arm_then here is_unless arms) ws r end
GivesArms here is_unless arms ws (Err e) longer names rest = Gives (arm_then here is_unless arms) ws (Err e) rest

-- What was returned are the statements behind `else`, up to `end`, whatever the arms are.
abbrev pub GivesElse : Around → List Word → Result (List Stmt) Fault → List Name → List Word → Type 0
GivesElse here ws (Ok other) names rest = (arms : List (Expr × List Stmt)) →
    Gives (else_more here.levels here.sets arms (block [] here.names true)) ws
    (Ok (known (stmt.If arms other false) names)) rest
GivesElse here ws (Err e) names rest = (arms : List (Expr × List Stmt)) →
    Gives (else_more here.levels here.sets arms (block [] here.names true)) ws (Err e) rest
