-- How an expression is printed. Every operator expression and every choice that stands inside another expression
-- stands in
-- parentheses, so that no rule of precedence is needed to read it back.
use Rattle.std.specs.Prelude.{ℕ, Bool, true, false, ◌&&◌, ◌||◌, not, nat_le, ◌==◌, List, [], ◌∷◌, ◌++◌, map, Option}
use Rattle.std.specs.Prelude.{Some, None, if◌then◌else◌, codes, bytes_eq}
use Rattle.std.specs.List.{flat_map}
use Rattle.std.specs.Fmt.{signed_decimal}
use Rattle.ruby_types.specs.declared.tree.Expr.{Expr, fold-Expr}
use Rattle.ruby_types.specs.declared.tree.Part.{Part, fold-Part}
use Rattle.ruby_types.specs.declared.tree.Expr.TheOpen.{Expr-F, Part-F}
use Rattle.ruby_types.specs.declared.tree.Expr.TheOpen as e
use Rattle.ruby_print.specs.declared.operators.Form.{Form}
use Rattle.ruby_print.specs.declared.operators.Form.TheVariants as form
use Rattle.ruby_print.specs.Pieces.{escaped, joined, constant_text, grouped}

-- the bytes of an expression, given whether it stands inside another
abbrev pub Printed : Type 0
Printed = Bool → List ℕ

-- what stands before and behind an operator expression inside another
abbrev pub left : Bool → List ℕ
left inside = if inside then 40 ∷ [] else []

-- The parenthesis behind an operator that stands inside another expression.
abbrev pub right : Bool → List ℕ
right inside = if inside then 41 ∷ [] else []

-- an operator expression or a choice
abbrev pub operation : List ℕ → Printed
operation text inside = left inside ++ (text ++ right inside)

-- expressions inside another, with `, ` between them
abbrev pub members : List Printed → List ℕ
members xs = joined (map (λ x. x true) xs)

-- a pair of a hash: `key => value`
abbrev pub pair_text : Printed × Printed → List ℕ
pair_text p = p.0 true ++ (codes " => " ++ p.1 true)

-- A name that can stand behind a dot begins with a small letter or `_`. Any other name of a method is an operator.
abbrev pub is_operator : List ℕ → Bool
is_operator [] = false
is_operator (b ∷ bs) = not ((nat_le 97 b && nat_le b 122) || (b == 95))

-- behind a dot, parentheses stand where there are arguments
abbrev pub arguments : List Printed → List ℕ
arguments [] = []
arguments (x ∷ xs) = grouped (members (x ∷ xs))

-- A call on an expression: `on[x]`, `- on`, `on + x` or `on.name(x, y)`.
abbrev pub call_on : Printed → List ℕ → List Printed → Printed
call_on on name args inside =
    if bytes_eq name (codes "[]") then on true ++ (91 ∷ (members args ++ 93 ∷ []))
    else (if bytes_eq name (codes "-@") then operation (codes "- " ++ on true) inside
    else (if is_operator name then operation (on true ++ (32 ∷ (name ++ (32 ∷ members args)))) inside
    else on true ++ (46 ∷ (name ++ arguments args))))

-- the form in which a call of a method of this name is printed
abbrev pub form_of : List ℕ → Form
form_of name =
    if bytes_eq name (codes "[]") then form.Element
    else (if bytes_eq name (codes "-@") then form.Negation
    else (if is_operator name then form.Operator else form.Method))

-- What a call of this form writes before its receiver.
abbrev pub before_receiver : Form → Bool → List ℕ
before_receiver form.Element inside = []
before_receiver form.Negation inside = left inside ++ codes "- "
before_receiver form.Operator inside = left inside
before_receiver form.Method inside = []

-- What a call of this form writes behind its receiver: `[..]`, or an operator and its right side, or `.name(..)`.
abbrev pub behind_receiver : Form → List ℕ → List Printed → Printed
behind_receiver form.Element name args inside = 91 ∷ (members args ++ 93 ∷ [])
behind_receiver form.Negation name args inside = right inside
behind_receiver form.Operator name args inside = 32 ∷ (name ++ (32 ∷ (members args ++ right inside)))
behind_receiver form.Method name args inside = 46 ∷ (name ++ arguments args)

-- a call on self has its parentheses
abbrev pub call_text : Option Printed → List ℕ → List Printed → Printed
call_text None name args inside = name ++ grouped (members args)
call_text (Some on) name args inside = call_on on name args inside

-- one level, with the printed expressions inside
abbrev pub expression_step : Expr-F Printed (List ℕ) → Printed
expression_step e.Nil inside = codes "nil"
expression_step e.True inside = codes "true"
expression_step e.False inside = codes "false"
expression_step e.SelfRef inside = codes "self"
expression_step (e.Int n) inside = signed_decimal n
expression_step (e.Str parts) inside = 34 ∷ (flat_map (λ part. part) parts ++ 34 ∷ [])
expression_step (e.Sym name) inside = 58 ∷ name
expression_step (e.Local name) inside = name
expression_step (e.Ivar name) inside = 64 ∷ name
expression_step (e.Const c) inside = constant_text c
expression_step (e.Array xs) inside = 91 ∷ (members xs ++ 93 ∷ [])
expression_step (e.Hash pairs) inside = 123 ∷ (joined (map pair_text pairs) ++ 125 ∷ [])
expression_step (e.Call on name args) inside = call_text on name args inside
expression_step (e.Not a) inside = operation (33 ∷ a true) inside
expression_step (e.And a b) inside = operation (a true ++ (codes " && " ++ b true)) inside
expression_step (e.Or a b) inside = operation (a true ++ (codes " || " ++ b true)) inside
expression_step (e.Choose a b c) inside = operation (a true ++ (codes " ? " ++ (b true ++ (codes " : " ++ c true))))
    inside

-- a part of a text: its bytes, or an expression in `#{` and `}`
abbrev pub part_step : Part-F Printed (List ℕ) → List ℕ
part_step (e.Plain text) = flat_map escaped text
part_step (e.Inside x) = 35 ∷ 123 ∷ (x true ++ 125 ∷ [])

-- An expression, given whether it stands inside another one.
abbrev pub expression : Expr → Printed
expression = fold-Expr Printed (List ℕ) expression_step part_step

-- A part of a text: escaped bytes, or `#{..}`.
abbrev pub part : Part → List ℕ
part = fold-Part Printed (List ℕ) expression_step part_step

-- an expression inside another, and one that stands alone
abbrev pub inner : Expr → List ℕ
inner x = expression x true

-- An expression that stands in no other one.
abbrev pub alone : Expr → List ℕ
alone x = expression x false

-- a pair inside its hash
abbrev pub inner_pair : Expr × Expr → List ℕ
inner_pair p = inner p.0 ++ (codes " => " ++ inner p.1)
