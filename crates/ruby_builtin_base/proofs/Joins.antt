-- How joined texts grow at their end.
use Rattle.std.proofs.Common.{◌≡◌, ℕ, ◌+◌, ◌<◌, Bool, true, false, List, [], ◌∷◌, ◌++◌, length, map, take, get_or, cond}
use Rattle.std.proofs.Common.{min, length-append, refl, ap, ◌∙◌, sym, append_assoc, arith}
use Rattle.std.proofs.lemmas.Grind.{common_steps}
use Rattle.std.proofs.lemmas.List.{take_more, map-append}
use Rattle.ruby_builtin_base.specs.Printed.{joined, pair_text, inspect, inspect_layer, inspect_pair}
use Rattle.ruby_types.specs.Paths.{path_text}
use Rattle.ruby_types.specs.declared.value.Value.{Value, fold_out-Value, map-Value}
use Rattle.ruby_types.specs.declared.value.Value.TheVariants.{Hash, outs-Hash, Object, outs-Object}

-- a member more behind others
pub joined-push : (x y : List ℕ) (xs : List (List ℕ)) → joined ((x ∷ xs) ++ y ∷ []) ≡ joined (x ∷ xs) ++ (44 ∷ 32 ∷ y)
joined-push x y [] = refl
joined-push x y (z ∷ zs) = ap (λ t. x ++ (44 ∷ 32 ∷ t)) (joined-push z y zs) ∙ sym (append_assoc x _ _)

grow_first : (o0 o1 o2 o3 x : List ℕ) → o1 ≡ o0 ++ [] → o2 ≡ o1 → o3 ≡ o2 ++ x → o3 ≡ o0 ++ x
grow_first o0 o1 o2 o3 x a b c = grind (arith, common_steps)

grow_more : (o0 o1 o2 o3 x s t u : List ℕ) → o1 ≡ o0 ++ t → o2 ≡ o1 ++ s → o3 ≡ o2 ++ x → u ≡ t ++ (s ++ x) →
    o3 ≡ o0 ++ u
grow_more o0 o1 o2 o3 x s t u a b c d = grind (arith, common_steps)

-- Whether a list is empty, as loops keep it in their flag of the first member.
abbrev pub is_nil : {X : Type 0} → List X → Bool
is_nil [] = true
is_nil (x ∷ xs) = false

nil-push : {X : Type 0} (xs : List X) (x : X) → false ≡ is_nil (xs ++ x ∷ [])
nil-push [] x = refl
nil-push (y ∷ ys) x = refl

-- one more member
joined_grows : {X : Type 0} (f : X → List ℕ) (ys : List X) (x : X) (o0 o1 o2 o3 : List ℕ) →
    o1 ≡ o0 ++ joined (map f ys) → o2 ≡ cond (is_nil ys) o1 (o1 ++ 44 ∷ 32 ∷ []) → o3 ≡ o2 ++ f x →
    o3 ≡ o0 ++ joined (map f (ys ++ x ∷ []))
joined_grows f [] x o0 o1 o2 o3 a b c = grow_first o0 o1 o2 o3 (f x) a b c
joined_grows f (y ∷ ys) x o0 o1 o2 o3 a b c =
    grow_more o0 o1 o2 o3 (f x) (44 ∷ 32 ∷ []) _ _ a b c (ap joined (map-append f (y ∷ ys) (x ∷ []))
    ∙ joined-push (f y) (f x) (map f ys))

-- one step of writing members: with `, ` before it, unless it is the first
pub joined-more : {X : Type 0} (f : X → List ℕ) (xs : List X) (i : ℕ) (x : X) (o0 o1 o2 o3 : List ℕ) (first : Bool) →
    i < length xs → x ≡ get_or xs i x →
    (first ≡ is_nil (take i xs)) × (o1 ≡ o0 ++ joined (map f (take i xs))) →
    o2 ≡ cond first o1 (o1 ++ 44 ∷ 32 ∷ []) → o3 ≡ o2 ++ f x →
    (false ≡ is_nil (take (i + 1) xs)) × (o3 ≡ o0 ++ joined (map f (take (i + 1) xs)))
joined-more f xs i x o0 o1 o2 o3 first h e inv b c =
    rw (take_more xs i x h, ← e)
    (nil-push (take i xs) x, joined_grows f (take i xs) x o0 o1 o2 o3 inv.1 (rw inv.0 at b) c)

-- a pair as it is written piece by piece
pub pair_steps : (o1 o2 o3 o4 k v : List ℕ) → o2 ≡ o1 ++ k → o3 ≡ o2 ++ 61 ∷ 62 ∷ [] → o4 ≡ o3 ++ v →
    o4 ≡ o1 ++ pair_text (k, v)
pair_steps o1 o2 o3 o4 k v a b c = grind (arith, common_steps)

map-pairs : (f : Value → List ℕ) (ps : List (Value × Value)) →
    map pair_text (map (λ p. (f p.0, f p.1)) ps) ≡ map (λ p. pair_text (f p.0, f p.1)) ps
map-pairs f [] = refl
map-pairs f (p ∷ ps) = ap (λ t. pair_text (f p.0, f p.1) ∷ t) (map-pairs f ps)

-- a hash as `inspect` shows it
pub inspect-Hash : (ps : List (Value × Value)) → inspect (Hash ps) ≡ 123 ∷ (joined (map inspect_pair ps) ++ 125 ∷ [])
inspect-Hash ps =
    fold_out-Value (List ℕ) inspect_layer (Hash ps)
    ∙ ap (λ x. inspect_layer (map-Value Value (List ℕ) inspect x)) (outs-Hash ps)
    ∙ ap (λ t. 123 ∷ (joined t ++ 125 ∷ [])) (map-pairs inspect ps)

-- an object as `inspect` shows it
pub inspect-Object : (path : List (List ℕ)) (ps : List (Value × Value)) →
    inspect (Object path ps) ≡ 35 ∷ 60 ∷ (path_text path ++ 62 ∷ [])
inspect-Object path ps =
    fold_out-Value (List ℕ) inspect_layer (Object path ps)
    ∙ ap (λ x. inspect_layer (map-Value Value (List ℕ) inspect x)) (outs-Object path ps)

-- ---- lengths

-- one member more adds its length, and two bytes before it unless it is the first
length-joined-push : {X : Type 0} (f : X → List ℕ) (ys : List X) (x : X) →
    length (joined (map f (ys ++ x ∷ [])))
    ≡ length (joined (map f ys)) + (cond (is_nil ys) 0 2 + length (f x))
length-joined-push f [] x = omega arith
length-joined-push f (y ∷ ys) x =
    ap (λ t. length (joined t)) (map-append f (y ∷ ys) (x ∷ []))
    ∙ ap length (joined-push (f y) (f x) (map f ys))
    ∙ length-append (joined (map f (y ∷ ys))) (44 ∷ 32 ∷ f x)
    ∙ (omega arith)

-- the length of members with one more, saturated at each step
pub length-joined-more : {X : Type 0} (f : X → List ℕ) (xs : List X) (i : ℕ) (x : X) (total comma one after most : ℕ)
    (first : Bool) → i < length xs → x ≡ get_or xs i x →
    (first ≡ is_nil (take i xs)) × (total ≡ min (length (joined (map f (take i xs)))) most) →
    comma ≡ cond first 0 2 → one ≡ min (length (f x)) most → after ≡ min (min (total + comma) most + one) most →
    (false ≡ is_nil (take (i + 1) xs)) × (after ≡ min (length (joined (map f (take (i + 1) xs)))) most)
length-joined-more f xs i x total comma one after most first h e inv is_comma is_one is_after =
    let grown = length-joined-push f (take i xs) x in
    let so_far : comma ≡ cond (is_nil (take i xs)) 0 2 = is_comma ∙ ap (λ b. cond b 0 2) inv.0 in
    rw (take_more xs i x h, ← e) (nil-push (take i xs) x, omega (arith, grown, so_far, inv.1, is_one, is_after))

-- a pair is as long as its key and its value, and two bytes more
pub length-pair : (p : Value × Value) →
    length (inspect_pair p) ≡ length (inspect p.0) + (2 + length (inspect p.1))
length-pair p = omega (arith, length-append (inspect p.0) (61 ∷ 62 ∷ inspect p.1))

-- a hash is as long as its pairs, and two bytes more
pub length-inspect-Hash : (ps : List (Value × Value)) →
    length (inspect (Hash ps)) ≡ length (joined (map inspect_pair ps)) + 2
length-inspect-Hash ps = ap length (inspect-Hash ps)
    ∙ (omega (arith, length-append (joined (map inspect_pair ps)) (125 ∷ [])))

-- an object is as long as its class's path, and three bytes more
pub length-inspect-Object : (path : List (List ℕ)) (ps : List (Value × Value)) →
    length (inspect (Object path ps)) ≡ length (path_text path) + 3
length-inspect-Object path ps = ap length (inspect-Object path ps)
    ∙ (omega (arith, length-append (path_text path) (62 ∷ [])))
