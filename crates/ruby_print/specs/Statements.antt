-- How statements are printed: each on a line of its own, two spaces deeper than what it stands in.
use Rattle.std.specs.Prelude.{ℕ, Bool, true, false, List, [], ◌∷◌, ◌++◌, map, Option, Some, None, codes}
use Rattle.std.specs.List.{flat_map}
use Rattle.ruby_types.specs.declared.tree.Expr.{Expr}
use Rattle.ruby_types.specs.declared.tree.Stmt.{Stmt, fold-Stmt}
use Rattle.ruby_types.specs.declared.tree.Stmt.TheOpen.{Stmt-F}
use Rattle.ruby_types.specs.declared.tree.Stmt.TheOpen as s
use Rattle.ruby_print.specs.Expressions.{alone}

-- the bytes from the first of a statement or definition to its last, given the spaces that its line begins with
abbrev pub Placed : Type 0
Placed = List ℕ → List ℕ

-- one level deeper
abbrev pub deeper : List ℕ → List ℕ
deeper indent = 32 ∷ 32 ∷ indent

-- A statement on its line, behind its spaces and before its LF.
abbrev pub line : List ℕ → Placed → List ℕ
line indent x = indent ++ (x indent ++ 10 ∷ [])

-- Statements, a line each.
abbrev pub lines : List ℕ → List Placed → List ℕ
lines indent xs = flat_map (line indent) xs

-- the rest of a line, the lines inside, and the beginning of the line behind them
abbrev pub inside : List ℕ → List Placed → List ℕ
inside indent xs = 10 ∷ (lines (deeper indent) xs ++ indent)

-- the arms of an `if`, of which the first begins with this word and each other with `elsif`
abbrev pub arms : List ℕ → List ℕ → List (Expr × List Placed) → List ℕ
arms indent word [] = []
arms indent word (a ∷ as') = word ++ (alone a.0 ++ (inside indent a.1 ++ arms indent (codes "elsif ") as'))

-- The `else` of an `if` with its statements, or nothing.
abbrev pub otherwise : List ℕ → List Placed → List ℕ
otherwise indent [] = []
otherwise indent (x ∷ xs) = codes "else" ++ inside indent (x ∷ xs)

-- a condition behind its one statement
abbrev pub behind : List ℕ → Expr × List Placed → List ℕ
behind indent a = flat_map (λ x. x indent) a.1 ++ (codes " if " ++ alone a.0)

-- An `if` behind its statement, or as a block.
abbrev pub if_text : Bool → List (Expr × List Placed) → List Placed → Placed
if_text true as' other indent = flat_map (behind indent) as'
if_text false as' other indent = arms indent (codes "if ") as' ++ (otherwise indent other ++ codes "end")

-- `return` with its value, or alone.
abbrev pub return_text : Option Expr → List ℕ
return_text None = codes "return"
return_text (Some x) = codes "return " ++ alone x

-- One level of a statement, its inner statements being printed.
abbrev pub statement_step : Stmt-F Placed → Placed
statement_step (s.Expr x) indent = alone x
statement_step (s.Set name value) indent = name ++ (codes " = " ++ alone value)
statement_step (s.SetIvar name value) indent = 64 ∷ (name ++ (codes " = " ++ alone value))
statement_step (s.Return x) indent = return_text x
statement_step (s.Raise x) indent = codes "raise " ++ alone x
statement_step (s.If as' other after) indent = if_text after as' other indent

-- A statement, given the spaces that its line begins with.
abbrev pub statement : Stmt → Placed
statement = fold-Stmt Placed statement_step

-- the lines of these statements
abbrev pub statement_lines : List ℕ → List Stmt → List ℕ
statement_lines indent ss = flat_map (λ x. line indent (statement x)) ss

-- statements with their condition behind them
abbrev pub statements_behind : List ℕ → Expr × List Stmt → List ℕ
statements_behind indent a = flat_map (λ x. statement x indent) a.1 ++ (codes " if " ++ alone a.0)

-- the arms of these conditions and statements
abbrev pub statement_arms : List ℕ → List ℕ → List (Expr × List Stmt) → List ℕ
statement_arms indent word as' = arms indent word (map (λ a. (a.0, map statement a.1)) as')
