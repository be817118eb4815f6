-- Members of lists and lists that rise, by recursion on the list; and std's words for them.
use Rattle.std.proofs.Common.{◌≡◌, ℕ, zero, suc, ◌<◌, List, [], ◌∷◌, ◌++◌, length, map, drop, get_or, Contains, All}
use Rattle.std.proofs.Common.{AllPairs, refl, ap, subst, inl, inr, ◌⊎◌, arith}
use Rattle.std.proofs.lemmas.List.Elements.{All-cons, All-nil}
use Rattle.std.proofs.lemmas.List.Kept.{AllPairs-cons}

-- ---- members
-- x is a member, by recursion on the list
abbrev pub In : {X : Type 0} → X → List X → Type 0
In x [] = ⊥
In x (y ∷ ys) = (y ≡ x) ⊎ In x ys

contains_later : {X : Type 0} (x y : X) (ys : List X) → Contains ys x → Contains (y ∷ ys) x
contains_later x y ys h = (suc h.0, omega (arith, h.1), h.2)

-- from a member by recursion to std's word
pub Contains-from_in : {X : Type 0} (x : X) (xs : List X) → In x xs → Contains xs x
Contains-from_in x [] h = absurd h
Contains-from_in x (y ∷ ys) h =
    elim h [ inl e ↦ (zero, omega arith, e) | inr k ↦ contains_later x y ys (Contains-from_in x ys k) ]

in_at : {X : Type 0} (x : X) (xs : List X) (k : ℕ) → k < length xs → get_or xs k x ≡ x → In x xs
in_at x [] k lt e = absurd (omega (arith, lt))
in_at x (y ∷ ys) zero lt e = inl e
in_at x (y ∷ ys) (suc k) lt e = inr (in_at x ys k (omega (arith, lt)) e)

-- from std's word to a member by recursion
pub in_from_Contains : {X : Type 0} (x : X) (xs : List X) → Contains xs x → In x xs
in_from_Contains x xs h = in_at x xs h.0 h.1 h.2

-- a member of a front is one of the whole
pub in_front : {X : Type 0} (x : X) (xs ys : List X) → In x xs → In x (xs ++ ys)
in_front x [] ys h = absurd h
in_front x (z ∷ xs) ys h = elim h [ inl e ↦ inl e | inr k ↦ inr (in_front x xs ys k) ]

-- a member of a back is one of the whole
pub in_behind : {X : Type 0} (x : X) (xs ys : List X) → In x ys → In x (xs ++ ys)
in_behind x [] ys h = h
in_behind x (z ∷ xs) ys h = inr (in_behind x xs ys h)

-- a member of two lists joined is one of the first or of the second
pub in_append : {X : Type 0} (x : X) (xs ys : List X) → In x (xs ++ ys) → In x xs ⊎ In x ys
in_append x [] ys h = inr h
in_append x (z ∷ xs) ys h =
    elim h [ inl e ↦ inl (inl e) | inr k ↦ elim (in_append x xs ys k) [ inl a ↦ inl (inr a) | inr b ↦ inr b ] ]

-- a member's image is among the images
pub in_mapped : {X Y : Type 0} (f : X → Y) (x : X) (xs : List X) → In x xs → In (f x) (map f xs)
in_mapped f x [] h = absurd h
in_mapped f x (y ∷ ys) h = elim h [ inl e ↦ inl (ap f e) | inr k ↦ inr (in_mapped f x ys k) ]

-- an image is that of a member
pub mapped_in : {X Y : Type 0} (f : X → Y) (y : Y) (xs : List X) → In y (map f xs) → (x : X) × (f x ≡ y) × In x xs
mapped_in f y [] h = absurd h
mapped_in f y (x ∷ xs) h = elim h [
  | inl e ↦ (x, e, inl refl)
  | inr k ↦ let r = mapped_in f y xs k in
      (r.0, r.1, inr r.2)
]

-- ---- what holds of each member
-- it holds of each member of a list, said by recursion for proofs by induction
abbrev pub Each : {X : Type 0} → (X → Type 0) → List X → Type 0
Each P [] = Unit {0}
Each P (x ∷ xs) = P x × Each P xs

-- what holds of any member holds of each
pub each_of : {X : Type 0} (P : X → Type 0) (xs : List X) → ((x : X) → In x xs → P x) → Each P xs
each_of P [] h = tt
each_of P (x ∷ xs) h = (h x (inl refl), each_of P xs (λ y k. h y (inr k)))

-- what holds of each member holds of any
pub of_each : {X : Type 0} (P : X → Type 0) (xs : List X) (x : X) → Each P xs → In x xs → P x
of_each P [] x h k = absurd k
of_each P (y ∷ ys) x h k = elim k [ inl e ↦ subst P e h.0 | inr m ↦ of_each P ys x h.1 m ]

-- from each member by recursion to std's word
pub All-from_each : {X : Type 0} (P : X → Type 0) (xs : List X) → Each P xs → All P xs
All-from_each P [] h = All-nil P
All-from_each P (x ∷ xs) h = All-cons P x xs h.0 (All-from_each P xs h.1)

-- ---- each member before all later ones
-- it holds of each member and all later ones, said by recursion for proofs by induction
abbrev pub Rises : {X : Type 0} → (X → X → Type 0) → List X → Type 0
Rises R [] = Unit {0}
Rises R (x ∷ xs) = Each (R x) xs × Rises R xs

-- from rising by recursion to std's word
pub AllPairs-from_rises : {X : Type 0} (R : X → X → Type 0) (xs : List X) → Rises R xs → AllPairs R xs
AllPairs-from_rises R [] h = λ i j d a b. absurd (omega (arith, a, b))
AllPairs-from_rises R (x ∷ xs) h = AllPairs-cons R x xs (All-from_each (R x) xs h.0) (AllPairs-from_rises R xs h.1)

-- two rising lists joined rise where the first is before the second
pub rises_append : {X : Type 0} (R : X → X → Type 0) (xs ys : List X) → Rises R xs → Rises R ys →
    ((x y : X) → In x xs → In y ys → R x y) → Rises R (xs ++ ys)
rises_append R [] ys front back across = back
rises_append R (x ∷ xs) ys front back across = (
  each_of (R x) (xs ++ ys)
      (λ z k. elim (in_append z xs ys k) [ inl a ↦ of_each (R x) xs z front.0 a | inr b ↦ across x z (inl refl) b ]),
  rises_append R xs ys front.1 back (λ y z a b. across y z (inr a) b),
)

-- what follows from what holds of each member holds of each
pub each_weaker : {X : Type 0} (P Q : X → Type 0) → ((x : X) → P x → Q x) → (xs : List X) → Each P xs → Each Q xs
each_weaker P Q f [] h = tt
each_weaker P Q f (x ∷ xs) h = (f x h.0, each_weaker P Q f xs h.1)

-- a list that rises by an order rises by a weaker one
pub rises_weaker : {X : Type 0} (R S : X → X → Type 0) → ((x y : X) → R x y → S x y) → (xs : List X) → Rises R xs →
    Rises S xs
rises_weaker R S f [] h = tt
rises_weaker R S f (x ∷ xs) h = (each_weaker (R x) (S x) (f x) xs h.0, rises_weaker R S f xs h.1)

each_from_All : {X : Type 0} (P : X → Type 0) (xs : List X) → All P xs → Each P xs
each_from_All P [] h = tt
each_from_All P (x ∷ xs) h = (h 0 x (omega arith), each_from_All P xs (λ k d lt. h (suc k) d (omega (arith, lt))))

-- from std's word to rising by recursion
pub rises_from_AllPairs : {X : Type 0} (R : X → X → Type 0) (xs : List X) → AllPairs R xs → Rises R xs
rises_from_AllPairs R [] h = tt
rises_from_AllPairs R (x ∷ xs) h = (
  each_from_All (R x) xs (λ k d lt. h 0 (suc k) d (omega arith) (omega (arith, lt))),
  rises_from_AllPairs R xs (λ i j d a b. h (suc i) (suc j) d (omega (arith, a)) (omega (arith, b))),
)

-- what is left of a rising list rises
pub rises_drop : {X : Type 0} (R : X → X → Type 0) (n : ℕ) (xs : List X) → Rises R xs → Rises R (drop n xs)
rises_drop R zero xs h = h
rises_drop R (suc n) [] h = tt
rises_drop R (suc n) (x ∷ xs) h = rises_drop R n xs h.1
