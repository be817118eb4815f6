-- Rows of workers and closers, with one more at the end.
use Rattle.std.specs.Prelude.{◌≡◌, ℕ, ◌+◌, List, [], ◌∷◌, ◌++◌, All, length}
use Rattle.std.proofs.Common.{arith, zero, suc, subst, ap, ◌∙◌, length-append, get_or}
use Rattle.std.proofs.Math.ListN.{get_or-append}
use Rattle.std.proofs.Math.Seq.{get_or-append_seam}
use Rattle.std.proofs.lemmas.List.Elements.{All-append}
use Rattle.serve_port.specs.Answered.{links_got}
use Rattle.serve_port.specs.Became.{Pairwise}

-- the links of all, with one closer more
pub links_got_more : {C : Type 0} (count : C → ℕ) (cs : List C) (c : C) →
    links_got count (cs ++ c ∷ []) ≡ links_got count cs + count c
links_got_more count [] c = omega arith
links_got_more count (x ∷ xs) c = let rest = links_got_more count xs c in omega (arith, rest)

-- what holds of all holds of all but the last
pub all_but_last : {C : Type 0} (P : C → Type 0) (old now : List C) (c : C) → old ≡ now ++ c ∷ [] → All P old →
    All P now
all_but_last P old now c is all k d below =
    let l : length old ≡ length now + 1 = ap length is ∙ length-append now (c ∷ []) in
    let same : get_or old k d ≡ get_or now k d = ap (λ xs. get_or xs k d) is ∙ get_or-append now (c ∷ []) d k below in
    subst P same (all k d (omega (arith, l, below)))

-- what holds of all holds of the last
pub holds_of_last : {C : Type 0} (P : C → Type 0) (old now : List C) (c : C) → old ≡ now ++ c ∷ [] → All P old → P c
holds_of_last P old now c is all =
    let l : length old ≡ length now + 1 = ap length is ∙ length-append now (c ∷ []) in
    let last : get_or old (length now) c ≡ c = ap (λ xs. get_or xs (length now) c) is ∙ get_or-append_seam now c [] c in
    subst P last (all (length now) c (omega (arith, l)))

-- what holds of one element holds of the list of it
pub all_one : {L : Type 0} (P : L → Type 0) (x : L) → P x → All P (x ∷ [])
all_one P x p zero d h = p
all_one P x p (suc k) d h = absurd (omega (arith, h))

-- what holds of all and of one more holds of all of them
pub all_with_last : {C : Type 0} (P : C → Type 0) (cs : List C) (c : C) → All P cs → P c → All P (cs ++ c ∷ [])
all_with_last P cs c all one = All-append P cs (c ∷ []) all (all_one P c one)

-- pairs with one more at the end
pub pairwise_with_last : {A : Type 0} (R : A → A → Type 0) (xs ys : List A) (x y : A) → Pairwise R xs ys → R x y →
    Pairwise R (xs ++ x ∷ []) (ys ++ y ∷ [])
pairwise_with_last R [] [] x y w h = (h, tt)
pairwise_with_last R [] (b ∷ ys) x y w h = absurd w
pairwise_with_last R (a ∷ xs) [] x y w h = absurd w
pairwise_with_last R (a ∷ xs) (b ∷ ys) x y w h = (w.0, pairwise_with_last R xs ys x y w.1 h)

-- each one became itself
pub pairwise_same : {A : Type 0} (R : A → A → Type 0) → ((x : A) → R x x) → (xs : List A) → Pairwise R xs xs
pairwise_same R stays [] = tt
pairwise_same R stays (x ∷ xs) = (stays x, pairwise_same R stays xs)
