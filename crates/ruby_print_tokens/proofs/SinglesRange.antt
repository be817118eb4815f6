-- A number from -2^63 to 2^63 - 1 is printed in at most 64 digits.
use Rattle.std.proofs.Common.{ℕ, suc, ◌^◌, ◌<◌, arith, ℤ, pos, negsuc}
use Rattle.ruby_print_pieces.specs.Names.{IsInRange}
use Rattle.ruby_print_tokens.proofs.SinglesNumbers.{IsShort}

short : (n : ℕ) → n < 2 ^ 63 → suc n < 10 ^ 64
short n h = omega arith

-- A number of 64 bits is printed in at most 64 digits.
pub range_short : (n : ℤ) → IsInRange n → IsShort n
range_short (pos n) h = let g : suc n < 10 ^ 64 = short n h in omega (arith, g)
range_short (negsuc n) h = short n h
