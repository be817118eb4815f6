-- How the texts of lists grow at their end.
use Rattle.std.proofs.Common.{◌≡◌, ℕ, ◌+◌, ◌<◌, Bool, true, false, List, [], ◌∷◌, ◌++◌, length, map, take, get_or, cond}
use Rattle.std.proofs.Common.{refl, ap, ◌∙◌, sym, append_assoc, arith}
use Rattle.std.proofs.lemmas.Grind.{common_steps}
use Rattle.std.proofs.lemmas.List.{take_more, map-append}
use Rattle.ruby_print.specs.Pieces.{joined}

-- Whether a list is empty, as loops keep it in their flag of the first member.
abbrev pub is_nil : {X : Type 0} → List X → Bool
is_nil [] = true
is_nil (x ∷ xs) = false

-- A list with one more member isn't empty: the flag of the first member behind a loop's step.
pub nil-push : {X : Type 0} (xs : List X) (x : X) → false ≡ is_nil (xs ++ x ∷ [])
nil-push [] x = refl
nil-push (y ∷ ys) x = refl

joined-push : (x y : List ℕ) (xs : List (List ℕ)) → joined ((x ∷ xs) ++ y ∷ []) ≡ joined (x ∷ xs) ++ (44 ∷ 32 ∷ y)
joined-push x y [] = refl
joined-push x y (z ∷ zs) = ap (λ t. x ++ (44 ∷ 32 ∷ t)) (joined-push z y zs) ∙ sym (append_assoc x _ _)

grow_first : (o0 o1 o2 o3 x : List ℕ) → o1 ≡ o0 ++ [] → o2 ≡ o1 → o3 ≡ o2 ++ x → o3 ≡ o0 ++ x
grow_first o0 o1 o2 o3 x a b c = grind (arith, common_steps)

grow_more : (o0 o1 o2 o3 x s t u : List ℕ) → o1 ≡ o0 ++ t → o2 ≡ o1 ++ s → o3 ≡ o2 ++ x → u ≡ t ++ (s ++ x) →
    o3 ≡ o0 ++ u
grow_more o0 o1 o2 o3 x s t u a b c d = grind (arith, common_steps)

-- one member more
grow : {X : Type 0} (f : X → List ℕ) (ys : List X) (x : X) (o0 o1 o2 o3 : List ℕ) →
    o1 ≡ o0 ++ joined (map f ys) → o2 ≡ cond (is_nil ys) o1 (o1 ++ 44 ∷ 32 ∷ []) → o3 ≡ o2 ++ f x →
    o3 ≡ o0 ++ joined (map f (ys ++ x ∷ []))
grow f [] x o0 o1 o2 o3 a b c = grow_first o0 o1 o2 o3 (f x) a b c
grow f (y ∷ ys) x o0 o1 o2 o3 a b c =
    grow_more o0 o1 o2 o3 (f x) (44 ∷ 32 ∷ []) _ _ a b c (ap joined (map-append f (y ∷ ys) (x ∷ []))
    ∙ joined-push (f y) (f x) (map f ys))

-- One more member keeps a loop's invariant over texts with commas between.
pub joined-more : {X : Type 0} (f : X → List ℕ) (xs : List X) (i : ℕ) (x : X) (o0 o1 o2 o3 : List ℕ) (first : Bool) →
    i < length xs → x ≡ get_or xs i x →
    (first ≡ is_nil (take i xs)) × (o1 ≡ o0 ++ joined (map f (take i xs))) →
    o2 ≡ cond first o1 (o1 ++ 44 ∷ 32 ∷ []) → o3 ≡ o2 ++ f x →
    (false ≡ is_nil (take (i + 1) xs)) × (o3 ≡ o0 ++ joined (map f (take (i + 1) xs)))
joined-more f xs i x o0 o1 o2 o3 first h e inv b c =
    rw (take_more xs i x h, ← e) (nil-push (take i xs) x, grow f (take i xs) x o0 o1 o2 o3 inv.1 (rw inv.0 at b) c)

grow_names : (ys : List (List ℕ)) (x : List ℕ) (o0 o1 o2 o3 : List ℕ) →
    o1 ≡ o0 ++ joined ys → o2 ≡ cond (is_nil ys) o1 (o1 ++ 44 ∷ 32 ∷ []) → o3 ≡ o2 ++ x →
    o3 ≡ o0 ++ joined (ys ++ x ∷ [])
grow_names [] x o0 o1 o2 o3 a b c = grow_first o0 o1 o2 o3 x a b c
grow_names (y ∷ ys) x o0 o1 o2 o3 a b c = grow_more o0 o1 o2 o3 x (44 ∷ 32 ∷ []) _ _ a b c (joined-push y x ys)

-- One more name keeps a loop's invariant over names with commas between.
pub names-more : (xs : List (List ℕ)) (i : ℕ) (x : List ℕ) (o0 o1 o2 o3 : List ℕ) (first : Bool) →
    i < length xs → x ≡ get_or xs i x →
    (first ≡ is_nil (take i xs)) × (o1 ≡ o0 ++ joined (take i xs)) → o2 ≡ cond first o1 (o1 ++ 44 ∷ 32 ∷ []) →
    o3 ≡ o2 ++ x →
    (false ≡ is_nil (take (i + 1) xs)) × (o3 ≡ o0 ++ joined (take (i + 1) xs))
names-more xs i x o0 o1 o2 o3 first h e inv b c =
    rw (take_more xs i x h, ← e) (nil-push (take i xs) x, grow_names (take i xs) x o0 o1 o2 o3 inv.1 (rw inv.0 at b) c)
