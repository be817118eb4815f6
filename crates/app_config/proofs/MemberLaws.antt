-- Members of lists: what a map or a filter keeps, and what some member has.
use Rattle.std.proofs.Common.{◌≡◌, ◌<◌, ◌≤◌, ℕ, zero, suc, Bool, true, false, cond, List, [], ◌∷◌, ◌++◌, length, map}
use Rattle.std.proofs.Common.{take, drop, ◌+◌}
use Rattle.std.proofs.Common.{Contains, refl, sym, ap, subst, ◌∙◌, arith}
use Rattle.std.specs.Prelude.{MatchBool}
use Rattle.std.specs.List.Sorted.{IsPermutation}
use Rattle.std.specs.List.{filter, Any, All, AllWithin}
use Rattle.std.proofs.lemmas.List.{append-nil, drop_all, get_or-map, get_or-take, get_or-drop, length-map, length-take}
use Rattle.std.proofs.lemmas.List.{length-drop}
use Rattle.std.proofs.lemmas.List.Sorted.{IsPermutation-map}

-- the answer to a question is the answer to one that has the same answer
pub MatchBool-same : (answer : Bool) {P Q : Type 0} → (P → Q) → (Q → P) → MatchBool answer P (¬ P) →
    MatchBool answer Q (¬ Q)
MatchBool-same true on back h = on h
MatchBool-same false on back h = λ q. h (back q)

Contains-head : {X : Type 0} (x : X) (xs : List X) → Contains (x ∷ xs) x
Contains-head x xs = (zero, omega arith, refl)

Contains-tail : {X : Type 0} (y : X) (xs : List X) (x : X) → Contains xs x → Contains (y ∷ xs) x
Contains-tail y xs x h = (suc h.0, omega (arith, h.1), h.2)

-- what passes the test is among what the filter keeps
pub Contains-filter : {X : Type 0} (test : X → Bool) (xs : List X) (x : X) → Contains xs x → test x ≡ true →
    Contains (filter test xs) x
Contains-filter test [] x h e = absurd (omega (arith, h.1))
Contains-filter {X} test (y ∷ xs) x (zero, within, at) e =
    let same : test y ≡ true = ap test at ∙ e in
    let P : X → Type 0 = λ z. Contains (y ∷ filter test xs) z in
    rw same (subst P at (Contains-head y (filter test xs)))
Contains-filter test (y ∷ xs) x (suc k, within, at) e =
    let rest = Contains-filter test xs x (k, omega arith, at) e in
    elim (test y) as (λ v. Contains (cond v (y ∷ filter test xs) (filter test xs)) x)
    [ true ↦ Contains-tail y (filter test xs) x rest | false ↦ rest ]

Contains-below : {X : Type 0} (y : X) (xs ys : List X) (x : X) → (Contains ys x → Contains xs x) →
    Contains (y ∷ ys) x → Contains (y ∷ xs) x
Contains-below y xs ys x below (zero, within, at) = (zero, omega arith, at)
Contains-below y xs ys x below (suc k, within, at) = Contains-tail y xs x (below (k, omega arith, at))

-- what a filter keeps is among what it was given
pub filter-contains : {X : Type 0} (test : X → Bool) (xs : List X) (x : X) → Contains (filter test xs) x →
    Contains xs x
filter-contains test [] x h = h
filter-contains test (y ∷ xs) x h =
    elim (test y) as (λ v. Contains (cond v (y ∷ filter test xs) (filter test xs)) x → Contains (y ∷ xs) x) [
      | true ↦ λ k. Contains-below y xs (filter test xs) x (filter-contains test xs x) k
      | false ↦ λ k. Contains-tail y xs x (filter-contains test xs x k)
    ] h

-- a member's image is among the images
pub Contains-map : {X Y : Type 0} (f : X → Y) (xs : List X) (x : X) (y : Y) → Contains xs x → f x ≡ y →
    Contains (map f xs) y
Contains-map f xs x y h e = (h.0, omega (arith, h.1, length-map xs f), get_or-map f xs h.0 x y h.1 ∙ (ap f h.2 ∙ e))

-- an image is that of a member
pub map-contains : {X Y : Type 0} (f : X → Y) (xs : List X) (y : Y) → Contains (map f xs) y → (x : X) × Contains xs x
    × (f x ≡ y)
map-contains f [] y h = absurd (omega (arith, h.1))
map-contains f (x ∷ xs) y (zero, within, at) = (x, Contains-head x xs, at)
map-contains f (x ∷ xs) y (suc k, within, at) =
    let r = map-contains f xs y (k, omega arith, at) in
    (r.0, Contains-tail x xs r.0 r.1, r.2)

-- some member has what this member has
pub Any-contains : {X : Type 0} (P : X → Type 0) (xs : List X) (x : X) → Contains xs x → P x → Any P xs
Any-contains P xs x h p = (h.0, x, h.1, h.2, p)

-- the member that has it
pub contains-any : {X : Type 0} (P : X → Type 0) (xs : List X) → Any P xs → (x : X) × Contains xs x × P x
contains-any P xs h = (h.1, (h.0, h.2, h.3), h.4)

-- what holds up to a place holds of what is taken up to it
pub All-take_within : {X : Type 0} (P : X → Type 0) (xs : List X) (n : ℕ) → AllWithin P xs 0 n → All P (take n xs)
All-take_within P xs n h = λ k d within.
    let below : k < n = omega (arith, within, length-take n xs) in
    subst P (sym (get_or-take n xs k d below)) (h k d (omega arith) below)

-- what holds from a place on holds of what is left from it on
pub All-drop_within : {X : Type 0} (P : X → Type 0) (xs : List X) (n : ℕ) → AllWithin P xs n (length xs) →
    All P (drop n xs)
All-drop_within P xs n h = λ k d within.
    subst P (sym (get_or-drop n xs k d)) (h (n + k) d (omega arith) (omega (arith, within, length-drop n xs)))

-- what a loop has kept of a list that it went through, in another order
pub IsPermutation-kept : {X Y : Type 0} (f : X → Y) (test : Y → Bool) (all : List Y) (n : ℕ) (kept ordered : List X) →
    map f kept ++ filter test (drop n all) ≡ filter test all → length all ≤ n → IsPermutation kept ordered →
    IsPermutation (filter test all) (map f ordered)
IsPermutation-kept {X} {Y} f test all n kept ordered e past h =
    let whole : map f kept ≡ filter test all =
    sym (append-nil (map f kept)) ∙ (ap (λ rest. map f kept ++ filter test rest) (sym (drop_all n all past)) ∙ e) in
    let P : List Y → Type 0 = λ texts. IsPermutation texts (map f ordered) in
    subst P whole (IsPermutation-map f kept ordered h)
