-- What the expressions that hold lists are printed as.
use Rattle.std.proofs.Common.{◌≡◌, ℕ, Bool, true, false, List, [], ◌∷◌, ◌++◌, map, Some, None, codes, cond, bytes_eq}
use Rattle.std.proofs.Common.{refl, ap, sym, ◌∙◌, arith}
use Rattle.std.proofs.lemmas.Grind.{common_steps}
use Rattle.std.specs.List.{flat_map}
use Rattle.std.proofs.lemmas.List.Folds.{flat_map-map}
use Rattle.ruby_types.specs.declared.tree.Expr.{Expr, fold_out-Expr, map-Expr, out-Expr}
use Rattle.ruby_types.specs.declared.tree.Part.{Part}
use Rattle.ruby_types.specs.declared.tree.ConstRef.{ConstRef}
use Rattle.ruby_types.specs.declared.tree.Expr.TheVariants as v
use Rattle.ruby_types.specs.declared.tree.Expr.TheOpen.{Expr-F}
use Rattle.ruby_print.specs.Pieces.{joined, grouped, constant_text}
use Rattle.ruby_print.specs.Expressions.{Printed, left, right, members, pair_text, is_operator, call_on, form_of}
use Rattle.ruby_print.specs.Expressions.{before_receiver, behind_receiver, expression_step, part_step, expression, part}
use Rattle.ruby_print.specs.Expressions.{inner, inner_pair}

-- The text of an expression by its first level: what each kind is printed as is read off by it.
pub expression_level : (x : Expr) (l : Expr-F Expr Part) → out-Expr x ≡ l →
    expression x ≡ expression_step (map-Expr Expr Part Printed (List ℕ) expression part l)
expression_level x l e = fold_out-Expr Printed (List ℕ) expression_step part_step x
    ∙ ap (λ l. expression_step (map-Expr Expr Part Printed (List ℕ) expression part l)) e

inner_all : (xs : List Expr) → map (λ (x : Printed). x true) (map expression xs) ≡ map inner xs
inner_all [] = refl
inner_all (x ∷ xs) = ap (λ t. inner x ∷ t) (inner_all xs)

-- The members of a list are the texts of its expressions with commas between: for lists and arguments.
pub members_of : (xs : List Expr) → members (map expression xs) ≡ joined (map inner xs)
members_of xs = ap joined (inner_all xs)

inner_pairs : (ps : List (Expr × Expr)) → map pair_text (map (λ p. (expression p.0, expression p.1)) ps)
    ≡ map inner_pair ps
inner_pairs [] = refl
inner_pairs (p ∷ ps) = ap (λ t. inner_pair p ∷ t) (inner_pairs ps)

-- The text of a symbol, read off the definition.
pub print-Sym : (name : List ℕ) (inside : Bool) → expression (v.Sym name) inside ≡ 58 ∷ name
print-Sym name inside = ap (λ f. f inside) (expression_level _ _ (v.outs-Sym name))

-- The text of a local variable, read off the definition.
pub print-Local : (name : List ℕ) (inside : Bool) → expression (v.Local name) inside ≡ name
print-Local name inside = ap (λ f. f inside) (expression_level _ _ (v.outs-Local name))

-- The text of an instance variable, read off the definition.
pub print-Ivar : (name : List ℕ) (inside : Bool) → expression (v.Ivar name) inside ≡ 64 ∷ name
print-Ivar name inside = ap (λ f. f inside) (expression_level _ _ (v.outs-Ivar name))

-- The text of a constant, read off the definition.
pub print-Const : (constant : ConstRef) (inside : Bool) → expression (v.Const constant) inside ≡ constant_text constant
print-Const constant inside = ap (λ f. f inside) (expression_level _ _ (v.outs-Const constant))

-- The text of an array, read off the definition.
pub print-Array : (xs : List Expr) (inside : Bool) →
    expression (v.Array xs) inside ≡ 91 ∷ (members (map expression xs) ++ 93 ∷ [])
print-Array xs inside = ap (λ f. f inside) (expression_level _ _ (v.outs-Array xs))

-- The text of a text, read off the definition.
pub print-Str : (ps : List Part) (inside : Bool) → expression (v.Str ps) inside ≡ 34 ∷ (flat_map part ps ++ 34 ∷ [])
print-Str ps inside = ap (λ f. f inside) (expression_level _ _ (v.outs-Str ps))
    ∙ ap (λ t. 34 ∷ (t ++ 34 ∷ [])) (flat_map-map (λ t. t) part ps)

-- The text of a hash, read off the definition.
pub print-Hash : (ps : List (Expr × Expr)) (inside : Bool) →
    expression (v.Hash ps) inside ≡ 123 ∷ (joined (map inner_pair ps) ++ 125 ∷ [])
print-Hash ps inside = ap (λ f. f inside) (expression_level _ _ (v.outs-Hash ps))
    ∙ ap (λ t. 123 ∷ (joined t ++ 125 ∷ [])) (inner_pairs ps)

-- The text of a call on self, read off the definition.
pub print-own : (name : List ℕ) (args : List Expr) (inside : Bool) → expression (v.Call None name args) inside
    ≡ name ++ grouped (members (map expression args))
print-own name args inside = ap (λ f. f inside) (expression_level _ _ (v.outs-Call None name args))

print-call : (on : Expr) (name : List ℕ) (args : List Expr) (inside : Bool) →
    expression (v.Call (Some on) name args) inside ≡ call_on (expression on) name (map expression args) inside
print-call on name args inside = ap (λ f. f inside) (expression_level _ _ (v.outs-Call (Some on) name args))

-- A key, an arrow and a value written one after another are a pair's text.
pub pair_steps : (o1 o2 o3 o4 k v : List ℕ) → o2 ≡ o1 ++ k → o3 ≡ o2 ++ codes " => " → o4 ≡ o3 ++ v →
    o4 ≡ o1 ++ (k ++ (codes " => " ++ v))
pair_steps o1 o2 o3 o4 k v a b c = grind (arith, common_steps)

-- what is joined at the chosen form is what is chosen
pick_joined : {F : Type 0} (before : F → List ℕ) (behind : F → List ℕ) (on : List ℕ) (p q r : Bool) (a b c d : F)
    (s t u v : List ℕ) → before a ++ (on ++ behind a) ≡ s → before b ++ (on ++ behind b) ≡ t →
    before c ++ (on ++ behind c) ≡ u → before d ++ (on ++ behind d) ≡ v →
    before (cond p a (cond q b (cond r c d))) ++ (on ++ behind (cond p a (cond q b (cond r c d))))
    ≡ cond p s (cond q t (cond r u v))
pick_joined before behind on true q r a b c d s t u v i j k l = i
pick_joined before behind on false true r a b c d s t u v i j k l = j
pick_joined before behind on false false true a b c d s t u v i j k l = k
pick_joined before behind on false false false a b c d s t u v i j k l = l

minus_parts : (l m on r : List ℕ) → (l ++ m) ++ (on ++ r) ≡ l ++ ((m ++ on) ++ r)
minus_parts l m on r = grind (arith, common_steps)

operator_parts : (l on n m r : List ℕ) → l ++ (on ++ (32 ∷ (n ++ (32 ∷ (m ++ r)))))
    ≡ l ++ ((on ++ (32 ∷ (n ++ (32 ∷ m)))) ++ r)
operator_parts l on n m r = grind (arith, common_steps)

-- a call is what stands before its receiver, the receiver, and what stands behind it
call_parts : (on : Expr) (name : List ℕ) (args : List Expr) (inside : Bool) →
    before_receiver (form_of name) inside
    ++ (inner on ++ behind_receiver (form_of name) name (map expression args) inside)
    ≡ call_on (expression on) name (map expression args) inside
call_parts on name args inside =
    pick_joined (λ f. before_receiver f inside) (λ f. behind_receiver f name (map expression args) inside) (inner on)
    (bytes_eq name (codes "[]")) (bytes_eq name (codes "-@")) (is_operator name) _ _ _ _ _ _ _ _
    refl (minus_parts (left inside) (codes "- ") (inner on) (right inside))
    (operator_parts (left inside) (inner on) name (members (map expression args)) (right inside)) refl

-- The text of a call is what stands before its receiver, the receiver, and what stands behind it.
pub print-parts : (on : Expr) (name : List ℕ) (args : List Expr) (inside : Bool) →
    expression (v.Call (Some on) name args) inside ≡ before_receiver (form_of name) inside ++
    (inner on ++ behind_receiver (form_of name) name (map expression args) inside)
print-parts on name args inside = print-call on name args inside ∙ sym (call_parts on name args inside)

-- The text of a negation, read off the definition.
pub print-Not : (a : Expr) (inside : Bool) →
    expression (v.Not a) inside ≡ left inside ++ ((33 ∷ inner a) ++ right inside)
print-Not a inside = ap (λ f. f inside) (expression_level _ _ (v.outs-Not a))

-- The text of `&&`, read off the definition.
pub print-And : (a b : Expr) (inside : Bool) →
    expression (v.And a b) inside ≡ left inside ++ ((inner a ++ (codes " && " ++ inner b)) ++ right inside)
print-And a b inside = ap (λ f. f inside) (expression_level _ _ (v.outs-And a b))

-- The text of `||`, read off the definition.
pub print-Or : (a b : Expr) (inside : Bool) →
    expression (v.Or a b) inside ≡ left inside ++ ((inner a ++ (codes " || " ++ inner b)) ++ right inside)
print-Or a b inside = ap (λ f. f inside) (expression_level _ _ (v.outs-Or a b))

-- The text of a choice, read off the definition.
pub print-Choose : (a b c : Expr) (inside : Bool) → expression (v.Choose a b c) inside
    ≡ left inside ++ ((inner a ++ (codes " ? " ++ (inner b ++ (codes " : " ++ inner c)))) ++ right inside)
print-Choose a b c inside = ap (λ f. f inside) (expression_level _ _ (v.outs-Choose a b c))
