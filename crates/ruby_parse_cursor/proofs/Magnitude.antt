-- The value of digits grows.
use Rattle.std.proofs.Common.{◌≡◌, ℕ, ◌-◌, ◌*◌, ◌+◌, ◌≤◌, List, [], ◌∷◌, arith, ◌==◌}
use Rattle.std.proofs.Common.{Bool, true, false, cond}
use Rattle.ruby_token.specs.Number.{magnitude_from}

by_test : (P : ℕ → Type 0) (b : Bool) (x y : ℕ) → P x → P y → P (cond b x y)
by_test P true x y p q = p
by_test P false x y p q = q

-- The value of digits is at least what was read so far.
pub grows : (n : ℕ) (bs : List ℕ) → n ≤ magnitude_from n bs
grows n [] = omega arith
grows n (b ∷ bs) =
    by_test (λ x. n ≤ magnitude_from x bs) (b == 95) n (10 * n + (b - 48))
    (grows n bs)
    (let i : 10 * n + (b - 48) ≤ magnitude_from (10 * n + (b - 48)) bs = grows (10 * n + (b - 48)) bs in
    omega (arith, i))

-- what was read so far is within what all digits give
pub within : (n total limit : ℕ) (bs : List ℕ) → magnitude_from n bs ≡ total → total ≤ limit → n ≤ limit
within n total limit bs e h = let g : n ≤ magnitude_from n bs = grows n bs in omega (arith, g, e, h)
