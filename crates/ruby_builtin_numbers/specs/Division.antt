-- The quotient and what is left of two numbers (the Ruby documentation of Integer#/ and Integer#%).
use Rattle.std.specs.Prelude.{ℤ, pos, ◌-ℤ◌, ◌*ℤ◌, neg_ℤ, int_lt, if◌then◌else◌}
use Rattle.std.specs.Int.{int_div_euclid}

-- The quotient rounded down: -7 / 2 is -4, and so is 7 / -2. `int_div_euclid` rounds so that no remainder is below 0,
-- which is down where the divisor is above 0; a quotient stays where both signs are turned.
abbrev pub floor_div : ℤ → ℤ → ℤ
floor_div n m = if int_lt m (pos 0) then int_div_euclid (neg_ℤ n) (neg_ℤ m) else int_div_euclid n m

-- what is left, which has the divisor's sign: -7 % 2 is 1, and 7 % -2 is -1
abbrev pub floor_rem : ℤ → ℤ → ℤ
floor_rem n m = n -ℤ m *ℤ floor_div n m
