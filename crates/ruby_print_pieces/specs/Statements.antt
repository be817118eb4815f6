-- The pieces of printed statements.
use Rattle.std.specs.Prelude.{ℕ, Bool, true, false, List, [], ◌∷◌, ◌++◌, Option, Some, None, codes}
use Rattle.std.specs.List.{flat_map}
use Rattle.ruby_types.specs.declared.tree.Expr.{Expr}
use Rattle.ruby_types.specs.declared.tree.Stmt.{Stmt, fold-Stmt}
use Rattle.ruby_types.specs.declared.tree.Stmt.TheOpen.{Stmt-F}
use Rattle.ruby_types.specs.declared.tree.Stmt.TheOpen as s
use Rattle.ruby_token.specs.declared.token.Op.TheVariants as op
use Rattle.ruby_token.specs.declared.token.TokenKind.TheVariants as k
use Rattle.ruby_print.specs.Statements.{deeper}
use Rattle.ruby_print_pieces.specs.Pieces.{Piece, piece, mark, name, newline, space}
use Rattle.ruby_print_pieces.specs.Expressions.{expression, alone}

-- the pieces of a statement or definition, given the spaces that its line begins with
abbrev pub Placed : Type 0
Placed = List ℕ → List Piece

-- The pieces of a statement on its line.
abbrev pub line : List ℕ → Placed → List Piece
line indent x = x indent ++ newline ∷ []

-- The pieces of statements, a line each.
abbrev pub lines : List ℕ → List Placed → List Piece
lines indent xs = flat_map (line indent) xs

-- the end of a line, and the lines inside
abbrev pub inside : List ℕ → List Placed → List Piece
inside indent xs = newline ∷ lines (deeper indent) xs

-- The pieces of an `if`'s arms, the first behind `if` and the others behind `elsif`.
abbrev pub arms : List ℕ → List ℕ → List (Expr × List Placed) → List Piece
arms indent word [] = []
arms indent word (a ∷ as') = name indent word ∷ (alone a.0 ++ (inside indent a.1 ++ arms indent (codes "elsif") as'))

-- The pieces of `else` with its statements, or none.
abbrev pub otherwise : List ℕ → List Placed → List Piece
otherwise indent [] = []
otherwise indent (x ∷ xs) = name indent (codes "else") ∷ inside indent (x ∷ xs)

-- a condition behind its one statement
abbrev pub behind : List ℕ → Expr × List Placed → List Piece
behind indent a = flat_map (λ x. x indent) a.1 ++ (name space (codes "if") ∷ alone a.0)

-- The pieces of an `if` behind its statement, or as a block.
abbrev pub if_pieces : Bool → List (Expr × List Placed) → List Placed → Placed
if_pieces true as' other indent = flat_map (behind indent) as'
if_pieces false as' other indent =
    arms indent (codes "if") as' ++ (otherwise indent other ++ name indent (codes "end") ∷ [])

-- The pieces of an assigned value, a space before it.
abbrev pub value : Expr → List Piece
value x = mark space op.Assign (codes "=") ∷ alone x

-- The pieces of a value that may lack.
abbrev pub perhaps : Option Expr → List Piece
perhaps None = []
perhaps (Some x) = alone x

-- One level of a statement's pieces.
abbrev pub statement_step : Stmt-F Placed → Placed
statement_step (s.Expr x) indent = expression x indent false
statement_step (s.Set text x) indent = name indent text ∷ value x
statement_step (s.SetIvar text x) indent = piece indent k.Ivar (64 ∷ text) ∷ value x
statement_step (s.Return o) indent = name indent (codes "return") ∷ perhaps o
statement_step (s.Raise x) indent = name indent (codes "raise") ∷ alone x
statement_step (s.If as' other after) indent = if_pieces after as' other indent

-- The pieces of a statement, given the spaces that its line begins with.
abbrev pub statement : Stmt → Placed
statement = fold-Stmt Placed statement_step
