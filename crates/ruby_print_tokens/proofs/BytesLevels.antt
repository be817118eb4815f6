-- What each kind of expression is printed as.
use Rattle.std.proofs.Common.{◌≡◌, ℕ, Bool, true, List, [], ◌∷◌, ◌++◌, map, Some, None, ap, ◌∙◌, codes, ℤ}
use Rattle.std.specs.List.{flat_map}
use Rattle.std.specs.Fmt.{signed_decimal}
use Rattle.std.proofs.lemmas.List.Folds.{flat_map-map}
use Rattle.ruby_types.specs.declared.tree.ConstRef.{ConstRef}
use Rattle.ruby_types.specs.declared.tree.Expr.{Expr, fold_out-Expr, map-Expr, out-Expr}
use Rattle.ruby_types.specs.declared.tree.Part.{Part, fold_out-Part, map-Part, out-Part}
use Rattle.ruby_types.specs.declared.tree.Expr.TheVariants as v
use Rattle.ruby_types.specs.declared.tree.Part.TheVariants as p
use Rattle.ruby_types.specs.declared.tree.Expr.TheOpen.{Expr-F, Part-F}
use Rattle.ruby_print.specs.Pieces.{escaped, joined, constant_text}
use Rattle.ruby_print.specs.Expressions.{Printed, operation, members, pair_text, call_text, expression_step, part_step}
use Rattle.ruby_print.specs.Expressions.{expression, part}

level : (x : Expr) (l : Expr-F Expr Part) → out-Expr x ≡ l →
    expression x ≡ expression_step (map-Expr Expr Part Printed (List ℕ) expression part l)
level x l h = fold_out-Expr Printed (List ℕ) expression_step part_step x
    ∙ ap (λ y. expression_step (map-Expr Expr Part Printed (List ℕ) expression part y)) h

at : {x y : Printed} → x ≡ y → (inside : Bool) → x inside ≡ y inside
at h inside = ap (λ f. f inside) h

-- A pair as it is printed.
abbrev pub printed_pair : Expr × Expr → Printed × Printed
printed_pair q = (expression q.0, expression q.1)

-- What `nil` is printed as, read off the definition.
pub printed-Nil : (inside : Bool) → expression v.Nil inside ≡ codes "nil"
printed-Nil inside = at (level _ _ v.outs-Nil) inside

-- What `true` is printed as, read off the definition.
pub printed-True : (inside : Bool) → expression v.True inside ≡ codes "true"
printed-True inside = at (level _ _ v.outs-True) inside

-- What `false` is printed as, read off the definition.
pub printed-False : (inside : Bool) → expression v.False inside ≡ codes "false"
printed-False inside = at (level _ _ v.outs-False) inside

-- What `self` is printed as, read off the definition.
pub printed-SelfRef : (inside : Bool) → expression v.SelfRef inside ≡ codes "self"
printed-SelfRef inside = at (level _ _ v.outs-SelfRef) inside

-- What a number is printed as, read off the definition.
pub printed-Int : (n : ℤ) (inside : Bool) → expression (v.Int n) inside ≡ signed_decimal n
printed-Int n inside = at (level _ _ (v.outs-Int n)) inside

-- What a symbol is printed as, read off the definition.
pub printed-Sym : (n : List ℕ) (inside : Bool) → expression (v.Sym n) inside ≡ 58 ∷ n
printed-Sym n inside = at (level _ _ (v.outs-Sym n)) inside

-- What a local variable is printed as, read off the definition.
pub printed-Local : (n : List ℕ) (inside : Bool) → expression (v.Local n) inside ≡ n
printed-Local n inside = at (level _ _ (v.outs-Local n)) inside

-- What an instance variable is printed as, read off the definition.
pub printed-Ivar : (n : List ℕ) (inside : Bool) → expression (v.Ivar n) inside ≡ 64 ∷ n
printed-Ivar n inside = at (level _ _ (v.outs-Ivar n)) inside

-- What a constant is printed as, read off the definition.
pub printed-Const : (c : ConstRef) (inside : Bool) → expression (v.Const c) inside ≡ constant_text c
printed-Const c inside = at (level _ _ (v.outs-Const c)) inside

-- What a text is printed as, read off the definition.
pub printed-Str : (ps : List Part) (inside : Bool) → expression (v.Str ps) inside ≡ 34 ∷ (flat_map part ps ++ 34 ∷ [])
printed-Str ps inside = at (level _ _ (v.outs-Str ps)) inside
    ∙ ap (λ t. 34 ∷ (t ++ 34 ∷ [])) (flat_map-map (λ t. t) part ps)

-- What an array is printed as, read off the definition.
pub printed-Array : (xs : List Expr) (inside : Bool) →
    expression (v.Array xs) inside ≡ 91 ∷ (members (map expression xs) ++ 93 ∷ [])
printed-Array xs inside = at (level _ _ (v.outs-Array xs)) inside

-- What a hash is printed as, read off the definition.
pub printed-Hash : (ps : List (Expr × Expr)) (inside : Bool) →
    expression (v.Hash ps) inside ≡ 123 ∷ (joined (map pair_text (map printed_pair ps)) ++ 125 ∷ [])
printed-Hash ps inside = at (level _ _ (v.outs-Hash ps)) inside

-- What a call on self is printed as, read off the definition.
pub printed-own : (n : List ℕ) (args : List Expr) (inside : Bool) → expression (v.Call None n args) inside
    ≡ call_text None n (map expression args) inside
printed-own n args inside = at (level _ _ (v.outs-Call None n args)) inside

-- What a call on a receiver is printed as, read off the definition.
pub printed-call : (on : Expr) (n : List ℕ) (args : List Expr) (inside : Bool) →
    expression (v.Call (Some on) n args) inside ≡ call_text (Some (expression on)) n (map expression args) inside
printed-call on n args inside = at (level _ _ (v.outs-Call (Some on) n args)) inside

-- What `!` is printed as, read off the definition.
pub printed-Not : (a : Expr) (inside : Bool) → expression (v.Not a) inside ≡ operation (33 ∷ expression a true) inside
printed-Not a inside = at (level _ _ (v.outs-Not a)) inside

-- What `&&` is printed as, read off the definition.
pub printed-And : (a b : Expr) (inside : Bool) →
    expression (v.And a b) inside ≡ operation (expression a true ++ (codes " && " ++ expression b true)) inside
printed-And a b inside = at (level _ _ (v.outs-And a b)) inside

-- What `||` is printed as, read off the definition.
pub printed-Or : (a b : Expr) (inside : Bool) →
    expression (v.Or a b) inside ≡ operation (expression a true ++ (codes " || " ++ expression b true)) inside
printed-Or a b inside = at (level _ _ (v.outs-Or a b)) inside

-- What a choice is printed as, read off the definition.
pub printed-Choose : (a b c : Expr) (inside : Bool) →
    expression (v.Choose a b c) inside
    ≡ operation (expression a true ++ (codes " ? " ++ (expression b true ++ (codes " : " ++ expression c true))))
    inside
printed-Choose a b c inside = at (level _ _ (v.outs-Choose a b c)) inside

part_level : (x : Part) (l : Part-F Expr Part) → out-Part x ≡ l →
    part x ≡ part_step (map-Part Expr Part Printed (List ℕ) expression part l)
part_level x l h = fold_out-Part Printed (List ℕ) expression_step part_step x
    ∙ ap (λ y. part_step (map-Part Expr Part Printed (List ℕ) expression part y)) h

-- What a plain part is printed as, read off the definition.
pub printed-Plain : (t : List ℕ) → part (p.Plain t) ≡ flat_map escaped t
printed-Plain t = part_level _ _ (p.outs-Plain t)

-- What an inside part is printed as, read off the definition.
pub printed-Inside : (x : Expr) → part (p.Inside x) ≡ 35 ∷ 123 ∷ (expression x true ++ 125 ∷ [])
printed-Inside x = part_level _ _ (p.outs-Inside x)
