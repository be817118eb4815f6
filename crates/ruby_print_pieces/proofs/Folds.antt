-- The pieces of an expression, a part, a statement or a definition, of the pieces of what stands in it.
use Rattle.std.proofs.Common.{◌≡◌, ℕ, Bool, List, ap, ◌∙◌}
use Rattle.ruby_types.specs.declared.tree.Expr.{Expr, fold_out-Expr, map-Expr, out-Expr}
use Rattle.ruby_types.specs.declared.tree.Part.{Part, fold_out-Part, map-Part, out-Part}
use Rattle.ruby_types.specs.declared.tree.Expr.TheOpen.{Expr-F, Part-F}
use Rattle.ruby_types.specs.declared.tree.Stmt.{Stmt, fold_out-Stmt, map-Stmt, out-Stmt}
use Rattle.ruby_types.specs.declared.tree.Stmt.TheOpen.{Stmt-F}
use Rattle.ruby_types.specs.declared.tree.Def.{Def, fold_out-Def, map-Def, out-Def}
use Rattle.ruby_types.specs.declared.tree.Def.TheOpen.{Def-F}
use Rattle.ruby_print_pieces.specs.Pieces.{Piece}
use Rattle.ruby_print_pieces.specs.Expressions.{Laid, expression_step, part_step, expression, part}
use Rattle.ruby_print_pieces.specs.Statements.{Placed, statement_step, statement}
use Rattle.ruby_print_pieces.specs.Definitions.{definition_step, definition}

-- The pieces of an expression from those one level below: opens the fold at one constructor.
pub pieces_of : (x : Expr) {l : Expr-F Expr Part} → out-Expr x ≡ l → (gap : List ℕ) (inside : Bool) →
    expression x gap inside ≡ expression_step (map-Expr Expr Part Laid (List Piece) expression part l) gap inside
pieces_of x e gap inside = ap (λ f. f gap inside) (fold_out-Expr Laid (List Piece) expression_step part_step x
    ∙ ap (λ l. expression_step (map-Expr Expr Part Laid (List Piece) expression part l)) e)

-- The pieces of a part of a text from those one level below.
pub pieces_of_part : (x : Part) {l : Part-F Expr Part} → out-Part x ≡ l →
    part x ≡ part_step (map-Part Expr Part Laid (List Piece) expression part l)
pieces_of_part x e = fold_out-Part Laid (List Piece) expression_step part_step x
    ∙ ap (λ l. part_step (map-Part Expr Part Laid (List Piece) expression part l)) e

-- A statement's layout from those one level below.
pub placed_statement : (x : Stmt) {l : Stmt-F Stmt} → out-Stmt x ≡ l →
    statement x ≡ statement_step (map-Stmt Stmt Placed statement l)
placed_statement x e = fold_out-Stmt Placed statement_step x
    ∙ ap (λ l. statement_step (map-Stmt Stmt Placed statement l)) e

-- The same at given spaces.
pub pieces_of_statement : (x : Stmt) {l : Stmt-F Stmt} → out-Stmt x ≡ l → (indent : List ℕ) →
    statement x indent ≡ statement_step (map-Stmt Stmt Placed statement l) indent
pieces_of_statement x e indent = ap (λ f. f indent) (placed_statement x e)

-- A definition's layout from those one level below.
pub placed_definition : (x : Def) {l : Def-F Def} → out-Def x ≡ l →
    definition x ≡ definition_step (map-Def Def Placed definition l)
placed_definition x e = fold_out-Def Placed definition_step x
    ∙ ap (λ l. definition_step (map-Def Def Placed definition l)) e

-- The same at given spaces.
pub pieces_of_definition : (x : Def) {l : Def-F Def} → out-Def x ≡ l → (indent : List ℕ) →
    definition x indent ≡ definition_step (map-Def Def Placed definition l) indent
pieces_of_definition x e indent = ap (λ f. f indent) (placed_definition x e)
