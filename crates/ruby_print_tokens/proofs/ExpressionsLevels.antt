-- The pieces of each kind of expression.
use Rattle.std.proofs.Common.{◌≡◌, ℕ, Bool, true, List, [], ◌∷◌, ◌++◌, map, Some, None, ap, ◌∙◌, codes, ℤ}
use Rattle.std.specs.List.{flat_map}
use Rattle.std.specs.Fmt.{signed_decimal}
use Rattle.std.proofs.lemmas.List.Folds.{flat_map-map}
use Rattle.ruby_types.specs.declared.tree.ConstRef.{ConstRef}
use Rattle.ruby_types.specs.declared.tree.Expr.{Expr}
use Rattle.ruby_types.specs.declared.tree.Part.{Part}
use Rattle.ruby_types.specs.declared.tree.Expr.TheVariants as v
use Rattle.ruby_types.specs.declared.tree.Part.TheVariants as p
use Rattle.ruby_token.specs.declared.token.Op.{Op}
use Rattle.ruby_token.specs.declared.token.Op.TheVariants as op
use Rattle.ruby_token.specs.declared.token.TokenKind.TheVariants as k
use Rattle.ruby_print.specs.Pieces.{escaped}
use Rattle.ruby_print_pieces.proofs.Folds.{pieces_of, pieces_of_part}
use Rattle.ruby_print_pieces.specs.Pieces.{Piece, piece, mark, name, open_bracket, close_bracket, space}
use Rattle.ruby_print_pieces.specs.Expressions.{Laid, members, pairs, constant, enclosed, call_pieces, expression, part}

-- two operands with an operator between them
abbrev pub infix_body : Laid → Op → List ℕ → Laid → List ℕ → List Piece
infix_body a o text b = λ g. a g true ++ (mark space o text ∷ b space true)

-- The pieces of a choice without parentheses.
abbrev pub choice_body : Laid → Laid → Laid → List ℕ → List Piece
choice_body a b c = λ g.
    a g true ++ (mark space op.Ask (codes "?") ∷ (b space true ++ (mark space op.Colon (codes ":") ∷ c space true)))

-- A pair's pieces.
abbrev pub laid_pair : Expr × Expr → Laid × Laid
laid_pair q = (expression q.0, expression q.1)

-- The pieces of a text, read off the definition.
pub laid-Str : (ps : List Part) (gap : List ℕ) (inside : Bool) →
    expression (v.Str ps) gap inside ≡ piece gap k.TextOpen (34 ∷ []) ∷
    (flat_map part ps ++ piece [] k.TextClose (34 ∷ []) ∷ [])
laid-Str ps gap inside = pieces_of _ (v.outs-Str ps) gap inside
    ∙ ap (λ t. piece gap k.TextOpen (34 ∷ []) ∷ (t ++ piece [] k.TextClose (34 ∷ []) ∷ []))
    (flat_map-map (λ t. t) part ps)

-- The pieces of an array, read off the definition.
pub laid-Array : (xs : List Expr) (gap : List ℕ) (inside : Bool) → expression (v.Array xs) gap inside
    ≡ open_bracket gap ∷ (members [] (map expression xs) ++ close_bracket ∷ [])
laid-Array xs gap inside = pieces_of _ (v.outs-Array xs) gap inside

-- The pieces of a hash, read off the definition.
pub laid-Hash : (ps : List (Expr × Expr)) (gap : List ℕ) (inside : Bool) →
    expression (v.Hash ps) gap inside ≡ mark gap op.OpenBrace (codes "{") ∷
    (pairs (map laid_pair ps) ++ mark [] op.CloseBrace (codes "}") ∷ [])
laid-Hash ps gap inside = pieces_of _ (v.outs-Hash ps) gap inside

-- The pieces of a call on self, read off the definition.
pub laid-own : (n : List ℕ) (args : List Expr) (gap : List ℕ) (inside : Bool) →
    expression (v.Call None n args) gap inside ≡ call_pieces None n (map expression args) gap inside
laid-own n args gap inside = pieces_of _ (v.outs-Call None n args) gap inside

-- The pieces of a call on a receiver, read off the definition.
pub laid-call : (on : Expr) (n : List ℕ) (args : List Expr) (gap : List ℕ) (inside : Bool) →
    expression (v.Call (Some on) n args) gap inside ≡ call_pieces (Some (expression on)) n
    (map expression args) gap inside
laid-call on n args gap inside = pieces_of _ (v.outs-Call (Some on) n args) gap inside

-- The pieces of `nil`, read off the definition.
pub laid-Nil : (gap : List ℕ) (inside : Bool) → expression v.Nil gap inside ≡ name gap (codes "nil") ∷ []
laid-Nil gap inside = pieces_of _ v.outs-Nil gap inside

-- The pieces of `true`, read off the definition.
pub laid-True : (gap : List ℕ) (inside : Bool) → expression v.True gap inside ≡ name gap (codes "true") ∷ []
laid-True gap inside = pieces_of _ v.outs-True gap inside

-- The pieces of `false`, read off the definition.
pub laid-False : (gap : List ℕ) (inside : Bool) → expression v.False gap inside ≡ name gap (codes "false") ∷ []
laid-False gap inside = pieces_of _ v.outs-False gap inside

-- The pieces of `self`, read off the definition.
pub laid-SelfRef : (gap : List ℕ) (inside : Bool) → expression v.SelfRef gap inside ≡ name gap (codes "self") ∷ []
laid-SelfRef gap inside = pieces_of _ v.outs-SelfRef gap inside

-- The pieces of a number, read off the definition.
pub laid-Int : (n : ℤ) (gap : List ℕ) (inside : Bool) →
    expression (v.Int n) gap inside ≡ piece gap k.Int (signed_decimal n) ∷ []
laid-Int n gap inside = pieces_of _ (v.outs-Int n) gap inside

-- The pieces of a symbol, read off the definition.
pub laid-Sym : (n : List ℕ) (gap : List ℕ) (inside : Bool) →
    expression (v.Sym n) gap inside ≡ piece gap k.Sym (58 ∷ n) ∷ []
laid-Sym n gap inside = pieces_of _ (v.outs-Sym n) gap inside

-- The pieces of a local variable, read off the definition.
pub laid-Local : (n : List ℕ) (gap : List ℕ) (inside : Bool) → expression (v.Local n) gap inside ≡ name gap n ∷ []
laid-Local n gap inside = pieces_of _ (v.outs-Local n) gap inside

-- The pieces of an instance variable, read off the definition.
pub laid-Ivar : (n : List ℕ) (gap : List ℕ) (inside : Bool) → expression (v.Ivar n) gap inside
    ≡ piece gap k.Ivar (64 ∷ n) ∷ []
laid-Ivar n gap inside = pieces_of _ (v.outs-Ivar n) gap inside

-- The pieces of a constant, read off the definition.
pub laid-Const : (c : ConstRef) (gap : List ℕ) (inside : Bool) → expression (v.Const c) gap inside ≡ constant gap c
laid-Const c gap inside = pieces_of _ (v.outs-Const c) gap inside

-- The pieces of `!`, read off the definition.
pub laid-Not : (a : Expr) (gap : List ℕ) (inside : Bool) →
    expression (v.Not a) gap inside ≡ enclosed (λ g. mark g op.Not (codes "!") ∷ expression a [] true) gap inside
laid-Not a gap inside = pieces_of _ (v.outs-Not a) gap inside

-- The pieces of `&&`, read off the definition.
pub laid-And : (a b : Expr) (gap : List ℕ) (inside : Bool) → expression (v.And a b) gap inside
    ≡ enclosed (infix_body (expression a) op.AndAlso (codes "&&") (expression b)) gap inside
laid-And a b gap inside = pieces_of _ (v.outs-And a b) gap inside

-- The pieces of `||`, read off the definition.
pub laid-Or : (a b : Expr) (gap : List ℕ) (inside : Bool) → expression (v.Or a b) gap inside
    ≡ enclosed (infix_body (expression a) op.OrElse (codes "||") (expression b)) gap inside
laid-Or a b gap inside = pieces_of _ (v.outs-Or a b) gap inside

-- The pieces of a choice, read off the definition.
pub laid-Choose : (a b c : Expr) (gap : List ℕ) (inside : Bool) → expression (v.Choose a b c) gap inside
    ≡ enclosed (choice_body (expression a) (expression b) (expression c)) gap inside
laid-Choose a b c gap inside = pieces_of _ (v.outs-Choose a b c) gap inside

-- The pieces of a plain part, read off the definition.
pub part-Plain : (t : List ℕ) → part (p.Plain t) ≡ piece [] k.TextPiece (flat_map escaped t) ∷ []
part-Plain t = pieces_of_part _ (p.outs-Plain t)

-- The pieces of an inside part, read off the definition.
pub part-Inside : (x : Expr) →
    part (p.Inside x) ≡ piece [] k.InsideOpen (35 ∷ 123 ∷ []) ∷
    (expression x [] true ++ piece [] k.InsideClose (125 ∷ []) ∷ [])
part-Inside x = pieces_of_part _ (p.outs-Inside x)
