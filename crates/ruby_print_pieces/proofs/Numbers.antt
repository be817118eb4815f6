-- A printed number is read as the same number, and numbers in range have texts in range.
use Rattle.std.proofs.Common.{◌≡◌, ℕ, zero, suc, ◌+◌, ◌-◌, ◌*◌, ◌/◌, ◌%◌, ◌<◌, ◌≤◌, ◌^◌, Bool, true, false, not, ◌==◌}
use Rattle.std.proofs.Common.{List, [], ◌∷◌, ◌++◌, refl, ap, ◌∙◌, arith, ℤ, pos, negsuc, ◌-ℤ◌, if◌then◌else◌, nat_le}
use Rattle.std.specs.Fmt.{signed_decimal, decimal}
use Rattle.std.proofs.lemmas.Fmt.{decimal_by_steps}
use Rattle.std.proofs.lemmas.Bool.Decides.{nat_tests}
use Rattle.ruby_token.specs.Number.{magnitude, magnitude_from, next_value, is_in_range}
use Rattle.ruby_grammar.specs.Values.{number_of}
use Rattle.ruby_print_pieces.specs.Names.{IsInRange}

more_from : (n : ℕ) (ds : List ℕ) (d : ℕ) → magnitude_from n (ds ++ d ∷ []) ≡ next_value (magnitude_from n ds) d
more_from n [] d = refl
more_from n (b ∷ bs) d = more_from (next_value n b) bs d

digit_value : (m d : ℕ) → d < 10 → next_value m (48 + d) ≡ 10 * m + d
digit_value m d h = grind (arith, nat_tests)

-- the first byte is no `-`
abbrev unsigned : List ℕ → Bool
unsigned [] = false
unsigned (b ∷ bs) = not (b == 45)

unsigned-more : (ds : List ℕ) (d : ℕ) → unsigned ds ≡ true → unsigned (ds ++ d ∷ []) ≡ true
unsigned-more [] d h = cc
unsigned-more (b ∷ bs) d h = h

digit_unsigned : (d : ℕ) → d < 10 → unsigned ((48 + d) ∷ []) ≡ true
digit_unsigned d h = grind (arith, nat_tests)

abbrev Back : ℕ → List ℕ → Type 0
Back m ds = (magnitude ds ≡ m) × (unsigned ds ≡ true)

back : (m : ℕ) → m < 2 ^ 64 → Back m (decimal m)
back = decimal_by_steps Back
    (λ m h. (digit_value 0 m h ∙ omega arith, digit_unsigned m h))
    (λ m ds h e. (
      more_from 0 ds (48 + m % 10) ∙ ap (λ x. next_value x (48 + m % 10)) e.0
          ∙ digit_value (m / 10) (m % 10) (omega arith) ∙ omega arith,
      unsigned-more ds (48 + m % 10) e.1,
    ))

by_test : (b : Bool) (x y : ℤ) → not b ≡ true → (if b then x else y) ≡ y
by_test true x y h = cc
by_test false x y h = refl

unsigned_value : (ds : List ℕ) → unsigned ds ≡ true → number_of ds ≡ pos (magnitude ds)
unsigned_value [] h = cc
unsigned_value (b ∷ bs) h = by_test (b == 45) _ _ h

below_zero : (n : ℕ) → pos 0 -ℤ pos (suc n) ≡ negsuc n
below_zero n = grind arith

-- A printed number is read as the same number.
pub number_back : (n : ℤ) → IsInRange n → number_of (signed_decimal n) ≡ n
number_back (pos n) h = let b = back n (omega arith) in unsigned_value (decimal n) b.1 ∙ ap pos b.0
number_back (negsuc n) h = let b = back (suc n) (omega arith) in ap (λ m. pos 0 -ℤ pos m) b.0 ∙ below_zero n

-- ---- ranges

within : (m limit : ℕ) → m ≤ limit → nat_le m limit ≡ true
within m limit h = grind (arith, nat_tests)

below : (m limit : ℕ) → nat_le m limit ≡ true → m ≤ limit
below m limit h = grind (arith, nat_tests)

unsigned_in_range : (ds : List ℕ) → unsigned ds ≡ true → magnitude ds < 2 ^ 63 → is_in_range ds ≡ true
unsigned_in_range [] u h = refl
unsigned_in_range (b ∷ bs) u h = by (b == 45) u
  where
    by : (t : Bool) → not t ≡ true →
        (if t then nat_le (magnitude bs) (2 ^ 63) else nat_le (magnitude (b ∷ bs)) (2 ^ 63 - 1)) ≡ true
    by true u = cc
    by false u = within (magnitude (b ∷ bs)) (2 ^ 63 - 1) (omega arith)

-- what is printed of a number in range is in range
pub printed_in_range : (n : ℤ) → IsInRange n → is_in_range (signed_decimal n) ≡ true
printed_in_range (pos n) h = let b = back n (omega arith) in unsigned_in_range (decimal n) b.1 (omega (arith, b.0))
printed_in_range (negsuc n) h = let b = back (suc n) (omega arith) in
    within (magnitude (decimal (suc n))) (2 ^ 63) (omega (arith, b.0))

negative_fits : (m : ℕ) → m ≤ 2 ^ 63 → IsInRange (pos 0 -ℤ pos m)
negative_fits zero h = omega arith
negative_fits (suc m) h = rw (below_zero m) (omega arith)

-- what is read in range is a number in range
pub read_fits : (text : List ℕ) → is_in_range text ≡ true → IsInRange (number_of text)
read_fits [] h = omega arith
read_fits (b ∷ bs) h = by (b == 45) h
  where
    by : (t : Bool) → (if t then nat_le (magnitude bs) (2 ^ 63) else nat_le (magnitude (b ∷ bs)) (2 ^ 63 - 1)) ≡ true →
        IsInRange (if t then pos 0 -ℤ pos (magnitude bs) else pos (magnitude (b ∷ bs)))
    by true k = negative_fits (magnitude bs) (below (magnitude bs) (2 ^ 63) k)
    by false k = let e = below (magnitude (b ∷ bs)) (2 ^ 63 - 1) k in omega arith
