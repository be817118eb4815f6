-- The pieces of printed definitions, and of a whole file.
use Rattle.std.specs.Prelude.{ℕ, Bool, true, false, List, [], ◌∷◌, ◌++◌, map, Option, Some, None, codes}
use Rattle.std.specs.List.{flat_map}
use Rattle.ruby_types.specs.declared.tree.ConstRef.{ConstRef}
use Rattle.ruby_types.specs.declared.tree.Def.{Def, fold-Def}
use Rattle.ruby_types.specs.declared.tree.Def.TheOpen.{Def-F}
use Rattle.ruby_types.specs.declared.tree.Def.TheOpen as d
use Rattle.ruby_types.specs.declared.tree.FileTree.{FileTree}
use Rattle.ruby_token.specs.declared.token.Op.TheVariants as op
use Rattle.ruby_token.specs.declared.token.TokenKind.TheVariants as k
use Rattle.ruby_print.specs.Definitions.{symbol}
use Rattle.ruby_print_pieces.specs.Pieces.{Piece, mark, name, const, open_paren, close_paren, dot, path, listed, space}
use Rattle.ruby_print_pieces.specs.Expressions.{constant}
use Rattle.ruby_print_pieces.specs.Statements.{Placed, line, inside, value, statement}

-- a body between the line that opens it and its `end`
abbrev pub body : List ℕ → List Placed → List Piece
body indent xs = inside indent xs ++ name indent (codes "end") ∷ []

-- The pieces of ` < A::B`, or none.
abbrev pub parent : Option ConstRef → List Piece
parent None = []
parent (Some c) = mark space op.Less (codes "<") ∷ constant space c

-- The pieces of a method's parameters in parentheses, or none.
abbrev pub parameters : List (List ℕ) → List Piece
parameters [] = []
parameters (n ∷ ns) = open_paren [] ∷ (listed k.Name [] (n ∷ ns) ++ close_paren ∷ [])

-- `name` or `self.name`
abbrev pub heading : Bool → List ℕ → List Piece
heading true called = name space (codes "self") ∷ dot ∷ name [] called ∷ []
heading false called = name space called ∷ []

-- One level of a definition's pieces.
abbrev pub definition_step : Def-F Placed → Placed
definition_step (d.Module names xs) indent = name indent (codes "module") ∷ (path space names ++ body indent xs)
definition_step (d.Class names p xs) indent =
    name indent (codes "class") ∷ (path space names ++ (parent p ++ body indent xs))
definition_step (d.Assign text x) indent = const indent text ∷ value x
definition_step (d.Method single called params ss) indent =
    name indent (codes "def") ∷ (heading single called ++ (parameters params ++ body indent (map statement ss)))
definition_step (d.Include c) indent = name indent (codes "include") ∷ constant space c
definition_step (d.Readers names) indent = name indent (codes "attr_reader") ∷ listed k.Sym space (map symbol names)

-- The pieces of a definition, given the spaces that its line begins with.
abbrev pub definition : Def → Placed
definition = fold-Def Placed definition_step

-- definitions, each on a line of its own
abbrev pub definitions : List ℕ → List Def → List Piece
definitions indent ds = flat_map (λ x. line indent (definition x)) ds

-- The pieces of a printed file.
abbrev pub file_pieces : FileTree → List Piece
file_pieces tree = definitions [] tree.defs
