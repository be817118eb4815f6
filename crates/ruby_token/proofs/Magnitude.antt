-- The value of digits grows.
use Rattle.std.proofs.Common.{◌≡◌, ℕ, suc, ◌+◌, ◌-◌, ◌*◌, ◌<◌, ◌≤◌, List, [], ◌∷◌, length, drop, get_or, drop-cons}
use Rattle.std.proofs.Common.{arith, false, ◌==◌, nat_le}
use Rattle.std.proofs.lemmas.Bool.Decides.{nat_tests}
use Rattle.ruby_token.specs.Number.{next_value, magnitude_from}
use Rattle.ruby_token.proofs.Words.{split_if}

grows : (n : ℕ) (bs : List ℕ) → n ≤ magnitude_from n bs
grows n [] = omega arith
grows n (b ∷ bs) = split_if (λ x. n ≤ magnitude_from x bs) (b == 95) n (10 * n + (b - 48))
    (λ h. grows n bs)
    (λ h. let i : 10 * n + (b - 48) ≤ magnitude_from (10 * n + (b - 48)) bs = grows (10 * n + (b - 48)) bs in
    omega (arith, i))

above : (limit total : ℕ) → limit < total → false ≡ nat_le total limit
above limit total h = grind (arith, nat_tests)

-- where a front is above the limit, the whole is
pub stays_above : (limit n i total : ℕ) (digits : List ℕ) → i < length digits →
    limit < next_value n (get_or digits i 0) → magnitude_from n (drop i digits) ≡ total → false ≡ nat_le total limit
stays_above limit n i total digits l h e =
    let v : ℕ = next_value n (get_or digits i 0) in
    let d : drop i digits ≡ get_or digits i 0 ∷ drop (suc i) digits = drop-cons digits i 0 l in
    let e' : magnitude_from v (drop (suc i) digits) ≡ total = rw d at e in
    let g : v ≤ magnitude_from v (drop (suc i) digits) = grows v (drop (suc i) digits) in
    above limit total (omega (arith, g, e', h))
