-- Numbers whose digits are read with an upper bound.
use Rattle.std.proofs.Common.{◌≡◌, ℕ, ◌+◌, ◌-◌, ◌*◌, Bool, true, false, cond, List, [], ◌∷◌, min, sym}
use Rattle.std.proofs.Common.{ap, ◌∙◌, arith}
use Rattle.std.proofs.Common.{◌<◌, length, drop, get_or}
use Rattle.std.proofs.lemmas.List.{drop_more}
use Rattle.std.specs.Char.{is_ascii_digit}
use Rattle.ruby_builtin_texts.specs.Numerals.{with_digits}

by_digit : (most n byte : ℕ) (bytes : List ℕ) (digit : Bool) →
    ((m : ℕ) → min (with_digits (min m most) bytes) most ≡ min (with_digits m bytes) most) →
    min (cond digit (with_digits (10 * min n most + (byte - 48)) bytes) (min n most)) most
    ≡ min (cond digit (with_digits (10 * n + (byte - 48)) bytes) n) most
by_digit most n byte bytes false bounded = omega arith
by_digit most n byte bytes true bounded =
    sym (bounded (10 * min n most + (byte - 48)))
    ∙ ap (λ m. min (with_digits m bytes) most)
    (let e : min (10 * min n most + (byte - 48)) most ≡ min (10 * n + (byte - 48)) most = omega arith in e)
    ∙ bounded (10 * n + (byte - 48))

-- a number that is bounded before its digits are read comes to the same bounded number
pub bounded_digits : (most n : ℕ) (bytes : List ℕ) →
    min (with_digits (min n most) bytes) most ≡ min (with_digits n bytes) most
bounded_digits most n [] = omega arith
bounded_digits most n (byte ∷ bytes) =
    by_digit most n byte bytes (is_ascii_digit byte) (λ m. bounded_digits most m bytes)

-- one digit more
pub digits_more : (most n m i : ℕ) (bytes : List ℕ) → i < length bytes → is_ascii_digit (get_or bytes i 0) ≡ true →
    m ≡ min (10 * n + (get_or bytes i 0 - 48)) most →
    min (with_digits m (drop (i + 1) bytes)) most ≡ min (with_digits n (drop i bytes)) most
digits_more most n m i bytes within digit next =
    ap (λ k. min (with_digits k (drop (i + 1) bytes)) most) next
    ∙ bounded_digits most (10 * n + (get_or bytes i 0 - 48)) (drop (i + 1) bytes)
    ∙ sym (ap (λ b. min (cond b (with_digits (10 * n + (get_or bytes i 0 - 48)) (drop (i + 1) bytes)) n) most) digit)
    ∙ sym (ap (λ t. min (with_digits n t) most) (drop_more bytes i 0 within))
