-- Pairs that find partners, counted by sums.
use Rattle.std.proofs.Common.{◌≡◌, ℕ, zero, suc, ◌+◌, ◌<◌, Bool, true, false, ◌&&◌, cond, List, [], ◌∷◌, Some, length}
use Rattle.std.proofs.Common.{take, replicate, get_or, slice_get, slice_set, ◌≤◌, take_all, refl, ap, sym, ◌∙◌, arith}
use Rattle.std.specs.Prelude.{sum_by, count_by}
use Rattle.std.proofs.lemmas.List.Sums.{sum_by-cons, sum_by_more}
use Rattle.std.proofs.lemmas.Bool.{eq-eqb}
use Rattle.ruby_types.specs.Pairing.{Pair, left, SameSums}
use Rattle.ruby_types.specs.Same.{same_both, same_counts}

-- where nothing is taken, all members are left
pub all_left : {X : Type 0} (n : ℕ) (xs : List X) → left (replicate n false) xs ≡ xs
all_left n [] = refl
all_left zero (x ∷ xs) = refl
all_left (suc n) (x ∷ xs) = ap (λ l. x ∷ l) (all_left n xs)

-- a member that is taken adds to a sum what it takes from that of the members that are left
pub taken_from_left : {X : Type 0} (told : X → ℕ) (taken : List Bool) (xs : List X) (i : ℕ) (x : X) →
    slice_get taken i ≡ Some false → slice_get xs i ≡ Some x →
    sum_by told (left taken xs) ≡ told x + sum_by told (left (slice_set taken i true) xs)
taken_from_left told [] xs i x free here = absurd (cc)
taken_from_left told (b ∷ taken) [] i x free here = absurd (cc)
taken_from_left told (true ∷ taken) (y ∷ xs) zero x free here = absurd (cc)
taken_from_left told (false ∷ taken) (y ∷ xs) zero x free here =
    let e : y ≡ x = cc in sum_by-cons told y (left taken xs) ∙ ap (λ z. told z + sum_by told (left taken xs)) e
taken_from_left told (true ∷ taken) (y ∷ xs) (suc i) x free here = taken_from_left told taken xs i x free here
taken_from_left told (false ∷ taken) (y ∷ xs) (suc i) x free here =
    let inner = taken_from_left told taken xs i x free here in
    let a = sum_by-cons told y (left taken xs) in
    let b = sum_by-cons told y (left (slice_set taken i true) xs) in
    omega (arith, inner, a, b)

-- the sum of ones is the length
pub sum_of_ones : {X : Type 0} (xs : List X) → sum_by (λ x. 1) xs ≡ length xs
sum_of_ones [] = refl
sum_of_ones (x ∷ xs) = let a = sum_by-cons (λ y. 1) x xs in let b = sum_of_ones xs in omega (arith, a, b)

-- a list without length has the sum 0
pub no_sum : {X : Type 0} (told : X → ℕ) (xs : List X) → length xs ≡ 0 → sum_by told xs ≡ 0
no_sum told [] e = refl
no_sum told (x ∷ xs) e = absurd (omega (arith, e))

-- a pair more that found a partner keeps the sums
pub one_more_taken : {X : Type 0} (told : X → ℕ) (xs ys : List X) (taken : List Bool) (i j : ℕ) (x : X) →
    i < length xs → x ≡ get_or xs i x → slice_get taken j ≡ Some false → slice_get ys j ≡ Some x →
    sum_by told (take i xs) + sum_by told (left taken ys) ≡ sum_by told ys →
    sum_by told (take (i + 1) xs) + sum_by told (left (slice_set taken j true) ys) ≡ sum_by told ys
one_more_taken told xs ys taken i j x below at free here so_far =
    let a = sum_by_more told xs i x below ∙ ap (λ y. sum_by told (take i xs) + told y) (sym at) in
    let b = taken_from_left told taken ys j x free here in
    omega (arith, a, b, so_far)

-- lists of one length, of which each member of the one found a partner, have the same sums
pub all_taken : (xs ys : List Pair) (taken : List Bool) (i : ℕ) → length xs ≡ length ys → length xs ≤ i →
    ((told : Pair → ℕ) → sum_by told (take i xs) + sum_by told (left taken ys) ≡ sum_by told ys) → SameSums xs ys
all_taken xs ys taken i long behind sums told =
    let all : take i xs ≡ xs = take_all i xs behind in
    let ones = ap (λ l. sum_by (λ (p : Pair). 1) l + sum_by (λ (p : Pair). 1) (left taken ys)) (sym all)
    ∙ sums (λ p. 1) in
    let none : length (left taken ys) ≡ 0 =
    let a = sum_of_ones xs in let b = sum_of_ones (left taken ys) in let d = sum_of_ones ys in
    omega (arith, ones, a, b, d, long) in
    let rest = no_sum told (left taken ys) none in
    let whole = ap (λ l. sum_by told l + sum_by told (left taken ys)) (sym all) ∙ sums told in
    omega (arith, rest, whole)

-- lists of the same sums have their pairs equally often
pub same_sums_count : (ps own other : List Pair) → SameSums own other → same_counts same_both ps own other ≡ true
same_sums_count [] own other same = refl
same_sums_count (p ∷ ps) own other same =
    ap (λ b. b && same_counts same_both ps own other)
    (eq-eqb (count_by (same_both p) own) _ (same (λ q. cond (same_both p q) 1 0)))
    ∙ same_sums_count ps own other same

-- and so a list and one of the same sums, read through slices, have the pairs of the first equally often
pub same_sums_decide : (ps qs xs ys : List Pair) → xs ≡ ps → ys ≡ qs → SameSums xs ys →
    true ≡ same_counts same_both ps ps qs
same_sums_decide ps qs xs ys is_ps is_qs same =
    sym (same_sums_count ps ps qs
    (λ told. ap (sum_by told) (sym is_ps) ∙ same told ∙ ap (sum_by told) is_qs))
