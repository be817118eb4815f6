-- The pieces of a printed expression.
use Rattle.std.specs.Prelude.{ℕ, Bool, true, false, List, [], ◌∷◌, ◌++◌, Option, Some, None, if◌then◌else◌, codes}
use Rattle.std.specs.Prelude.{bytes_eq}
use Rattle.std.specs.List.{flat_map}
use Rattle.std.specs.Fmt.{signed_decimal}
use Rattle.ruby_types.specs.declared.tree.ConstRef.{ConstRef}
use Rattle.ruby_types.specs.declared.tree.Expr.{Expr, fold-Expr}
use Rattle.ruby_types.specs.declared.tree.Part.{Part, fold-Part}
use Rattle.ruby_types.specs.declared.tree.Expr.TheOpen.{Expr-F, Part-F}
use Rattle.ruby_types.specs.declared.tree.Expr.TheOpen as e
use Rattle.ruby_token.specs.declared.token.Op.TheVariants as op
use Rattle.ruby_token.specs.declared.token.TokenKind.TheVariants as k
use Rattle.ruby_print.specs.Pieces.{escaped}
use Rattle.ruby_print.specs.Expressions.{is_operator}
use Rattle.ruby_print_pieces.specs.Pieces.{Piece, piece, mark, name, open_paren, close_paren, open_bracket}
use Rattle.ruby_print_pieces.specs.Pieces.{close_bracket, comma, dot, colons, path, space, op_of}

-- the pieces of an expression, given the white before its first token and whether it stands inside another
abbrev pub Laid : Type 0
Laid = List ℕ → Bool → List Piece

-- in parentheses inside another, else as it is
abbrev pub enclosed : (List ℕ → List Piece) → Laid
enclosed x gap inside = if inside then open_paren gap ∷ (x [] ++ close_paren ∷ []) else x gap

-- expressions inside another, with commas between them
abbrev pub more_members : List Laid → List Piece
more_members [] = []
more_members (x ∷ xs) = comma ∷ (x space true ++ more_members xs)

-- The pieces of a list's members with commas between.
abbrev pub members : List ℕ → List Laid → List Piece
members gap [] = []
members gap (x ∷ xs) = x gap true ++ more_members xs

-- `key => value`
abbrev pub pair : List ℕ → Laid × Laid → List Piece
pair gap p = p.0 gap true ++ (mark space op.Arrow (codes "=>") ∷ p.1 space true)

-- The pieces of the pairs behind the first, a comma before each.
abbrev pub more_pairs : List (Laid × Laid) → List Piece
more_pairs [] = []
more_pairs (p ∷ ps) = comma ∷ (pair space p ++ more_pairs ps)

-- The pieces of a hash's pairs with commas between.
abbrev pub pairs : List (Laid × Laid) → List Piece
pairs [] = []
pairs (p ∷ ps) = pair [] p ++ more_pairs ps

-- The pieces of a call's arguments in parentheses, or none.
abbrev pub arguments : List Laid → List Piece
arguments [] = []
arguments (x ∷ xs) = open_paren [] ∷ (members [] (x ∷ xs) ++ close_paren ∷ [])

-- `on[x]`, `- on`, `on + x` or `on.name(x, y)`
abbrev pub call_on : Laid → List ℕ → List Laid → Laid
call_on on called args gap inside =
    if bytes_eq called (codes "[]") then on gap true ++ (open_bracket [] ∷ (members [] args ++ close_bracket ∷ []))
    else (if bytes_eq called (codes "-@") then enclosed (λ g. mark g op.Minus (codes "-") ∷ on space true) gap inside
    else (if is_operator called then enclosed
    (λ g. on g true ++ (mark space (op_of called) called ∷ members space args)) gap inside
    else on gap true ++ (dot ∷ name [] called ∷ arguments args)))

-- The pieces of a call: on self, an operator, an index, or behind a point.
abbrev pub call_pieces : Option Laid → List ℕ → List Laid → Laid
call_pieces None called args gap inside = name gap called ∷ open_paren [] ∷ (members [] args ++ close_paren ∷ [])
call_pieces (Some on) called args gap inside = call_on on called args gap inside

-- `A::B`, or `::A::B` where it is of the top level
abbrev pub constant : List ℕ → ConstRef → List Piece
constant gap c = if c.top then colons gap ∷ path [] c.path else path gap c.path

-- One level of an expression's pieces.
abbrev pub expression_step : Expr-F Laid (List Piece) → Laid
expression_step e.Nil gap inside = name gap (codes "nil") ∷ []
expression_step e.True gap inside = name gap (codes "true") ∷ []
expression_step e.False gap inside = name gap (codes "false") ∷ []
expression_step e.SelfRef gap inside = name gap (codes "self") ∷ []
expression_step (e.Int n) gap inside = piece gap k.Int (signed_decimal n) ∷ []
expression_step (e.Str parts) gap inside = piece gap k.TextOpen (34 ∷ []) ∷
    (flat_map (λ part. part) parts ++ piece [] k.TextClose (34 ∷ []) ∷ [])
expression_step (e.Sym text) gap inside = piece gap k.Sym (58 ∷ text) ∷ []
expression_step (e.Local text) gap inside = name gap text ∷ []
expression_step (e.Ivar text) gap inside = piece gap k.Ivar (64 ∷ text) ∷ []
expression_step (e.Const c) gap inside = constant gap c
expression_step (e.Array xs) gap inside = open_bracket gap ∷ (members [] xs ++ close_bracket ∷ [])
expression_step (e.Hash ps) gap inside = mark gap op.OpenBrace (codes "{") ∷
    (pairs ps ++ mark [] op.CloseBrace (codes "}") ∷ [])
expression_step (e.Call on called args) gap inside = call_pieces on called args gap inside
expression_step (e.Not a) gap inside = enclosed (λ g. mark g op.Not (codes "!") ∷ a [] true) gap inside
expression_step (e.And a b) gap inside =
    enclosed (λ g. a g true ++ (mark space op.AndAlso (codes "&&") ∷ b space true)) gap inside
expression_step (e.Or a b) gap inside =
    enclosed (λ g. a g true ++ (mark space op.OrElse (codes "||") ∷ b space true)) gap inside
expression_step (e.Choose a b c) gap inside =
    enclosed (λ g. a g true ++
    (mark space op.Ask (codes "?") ∷ (b space true ++ (mark space op.Colon (codes ":") ∷ c space true)))) gap inside

-- One level of the pieces of a text's part.
abbrev pub part_step : Part-F Laid (List Piece) → List Piece
part_step (e.Plain text) = piece [] k.TextPiece (flat_map escaped text) ∷ []
part_step (e.Inside x) = piece [] k.InsideOpen (35 ∷ 123 ∷ []) ∷ (x [] true ++ piece [] k.InsideClose (125 ∷ []) ∷ [])

-- The pieces of an expression, given the white before it and whether it stands inside another one.
abbrev pub expression : Expr → Laid
expression = fold-Expr Laid (List Piece) expression_step part_step

-- The pieces of a text's part.
abbrev pub part : Part → List Piece
part = fold-Part Laid (List Piece) expression_step part_step

-- an expression that stands alone, behind a space
abbrev pub alone : Expr → List Piece
alone x = expression x space false
