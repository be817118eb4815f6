-- What is still to be written of an expression while the bytes before it are written: pieces, of which the last comes
-- first.
use Rattle.std.specs.Prelude.{ℕ, ◌+◌, ◌*◌, max, List, [], ◌∷◌, ◌++◌, map, Option, Some, None}
use Rattle.ruby_types.specs.declared.tree.Expr.{Expr, fold-Expr, size-Expr}
use Rattle.ruby_types.specs.declared.tree.Expr.TheViews.{weight-Expr-Array-0}
use Rattle.ruby_types.specs.declared.tree.Expr.TheOpen.{Expr-F, Part-F}
use Rattle.ruby_types.specs.declared.tree.Expr.TheOpen as e
use Rattle.ruby_print.specs.declared.pending.Pending.{Pending}
use Rattle.ruby_print.specs.declared.pending.Pending.TheVariants as p
use Rattle.ruby_print.specs.Expressions.{right, behind_receiver, expression, inner}

-- What a pending piece writes.
abbrev pub piece_text : Pending → List ℕ
piece_text (p.Operand x) = inner x.now
piece_text (p.Operator sign x inside) = sign.now ++ (inner x.now ++ right inside)
piece_text (p.Behind form name args inside) = behind_receiver form name.now (map expression args.now) inside
piece_text p.Close = 41 ∷ []

-- What all that is pending writes, the last piece first.
abbrev pub pending_text : List Pending → List ℕ
pending_text [] = []
pending_text (x ∷ xs) = pending_text xs ++ piece_text x

-- how deep the expressions of a piece are
abbrev pub piece_depth : Pending → ℕ
piece_depth (p.Operand x) = size-Expr x.now
piece_depth (p.Operator sign x inside) = size-Expr x.now
piece_depth (p.Behind form name args inside) = weight-Expr-Array-0 args.now + 1
piece_depth p.Close = 0

-- How deep the deepest pending piece nests.
abbrev pub depth : List Pending → ℕ
depth [] = 0
depth (x ∷ xs) = max (depth xs) (piece_depth x)

-- three for an expression, and as much for each that is its receiver or operand, and so on down
abbrev pub received : Option ℕ → ℕ
received None = 0
received (Some n) = n

-- One level of an expression's links, which are printed without recursion.
abbrev pub links_step : Expr-F ℕ ℕ → ℕ
links_step (e.Call on name args) = received on + 3
links_step (e.Not a) = a + 3
links_step (e.And a b) = a + b + 3
links_step (e.Or a b) = a + b + 3
links_step (e.Choose a b c) = a + b + c + 3
links_step _ = 3

-- A part of a text is no link.
abbrev pub no_links : Part-F ℕ ℕ → ℕ
no_links _ = 0

-- How many links of operators, calls and choices an expression begins with.
abbrev pub links : Expr → ℕ
links = fold-Expr ℕ ℕ links_step no_links

-- how many steps it takes at most to write a piece
abbrev pub piece_steps : Pending → ℕ
piece_steps (p.Operand x) = 2 * links x.now
piece_steps (p.Operator sign x inside) = 2 * links x.now + 2
piece_steps (p.Behind form name args inside) = 1
piece_steps p.Close = 1

-- How many steps are left for what is pending.
abbrev pub steps : List Pending → ℕ
steps [] = 0
steps (x ∷ xs) = steps xs + piece_steps x
