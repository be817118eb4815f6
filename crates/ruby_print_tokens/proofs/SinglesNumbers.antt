-- The lexer finds each number that is printed.
use Rattle.std.proofs.Common.{◌≡◌, ℕ, zero, suc, ◌+◌, ◌/◌, ◌%◌, ◌^◌, ◌<◌, ◌≤◌, Bool, true, false, List, [], ◌∷◌, ◌++◌}
use Rattle.std.proofs.Common.{length, refl, ap, ◌∙◌, arith, None, ◌==◌, ◌⊎◌, inl, inr, ℤ, pos, negsuc, decimal, not}
use Rattle.std.proofs.Common.{mod-lt}
use Rattle.std.specs.Char.{is_ascii_digit, is_ascii_uppercase}
use Rattle.std.specs.Fmt.{signed_decimal}
use Rattle.std.proofs.lemmas.Bool.Decides.{nat_tests}
use Rattle.std.proofs.lemmas.Fmt.{decimal_by_steps_wide}
use Rattle.ruby_token.specs.declared.token.TokenKind.TheVariants as k
use Rattle.ruby_token.specs.declared.lexeme.Lexeme.TheVariants as l
use Rattle.ruby_token.specs.declared.state.State.{State}
use Rattle.ruby_token.specs.Bytes.{Every, is_word, is_lower, is_white, next_passes}
use Rattle.ruby_token.specs.Opens.{text_at}
use Rattle.ruby_token.specs.State.{ends_value, last_of}
use Rattle.ruby_token.specs.Lengths.{digits_len}
use Rattle.ruby_token.specs.Steps.{lexeme}
use Rattle.ruby_token.proofs.Longest.{not_true}
use Rattle.ruby_print_tokens.proofs.SinglesFlows.{Ready, last_passes, last_more}

-- digits that don't begin with 0
pub data IsPositive : List ℕ → Type 0 where
  positive : {b : ℕ} {t : List ℕ} → is_ascii_digit b ≡ true → (b == 48) ≡ false → Every is_ascii_digit t →
      IsPositive (b ∷ t)

digit_is : (n : ℕ) → n < 10 → is_ascii_digit (48 + n) ≡ true
digit_is n h = grind (arith, nat_tests)

not_zero : (n : ℕ) → 0 < n → (48 + n == 48) ≡ false
not_zero n h = grind (arith, nat_tests)

every_more : (t : List ℕ) (d : ℕ) → Every is_ascii_digit t → is_ascii_digit d ≡ true →
    Every is_ascii_digit (t ++ d ∷ [])
every_more [] d h e = (e, tt)
every_more (b ∷ t) d h e = (h.0, every_more t d h.1 e)

positive_more : (ds : List ℕ) (d : ℕ) → IsPositive ds → is_ascii_digit d ≡ true → IsPositive (ds ++ d ∷ [])
positive_more _ d (positive {t = t} h z e) g = positive h z (every_more t d e g)

-- What a printed number looks like: a first digit and more.
abbrev pub Shape : ℕ → List ℕ → Type 0
Shape n ds = ((n ≡ 0) × (ds ≡ 48 ∷ [])) ⊎ ((0 < n) × IsPositive ds)

shape_one : (n : ℕ) → n < 10 → Shape n ((48 + n) ∷ [])
shape_one zero h = inl (refl, refl)
shape_one (suc n) h = inr (omega arith, positive (digit_is (suc n) h) (not_zero (suc n) (omega arith)) tt)

last_digit : (n : ℕ) → n % 10 < 10
last_digit n = mod-lt n (omega arith)

tenth : (n : ℕ) → 10 ≤ n → 0 < n / 10
tenth n h = omega arith

shape_more : (n : ℕ) (ds : List ℕ) → 10 ≤ n → Shape (n / 10) ds → Shape n (ds ++ ((48 + n % 10) ∷ []))
shape_more n ds h s = elim s [
  | inl z ↦ let g : 0 < n / 10 = tenth n h in let e : n / 10 ≡ 0 = z.0 in absurd (omega (arith, g, e))
  | inr p ↦ inr (omega arith, positive_more ds (48 + n % 10) p.1 (digit_is (n % 10) (last_digit n)))
]

decimal_shape : (n : ℕ) → n < 10 ^ 64 → Shape n (decimal n)
decimal_shape n h = decimal_by_steps_wide Shape shape_one shape_more n h

-- ---- what is printed of a number

pub data IsNumber : List ℕ → Type 0 where
  zero_alone : IsNumber (48 ∷ [])
  counted : {ds : List ℕ} → IsPositive ds → IsNumber ds
  negative : {ds : List ℕ} → IsPositive ds → IsNumber (45 ∷ ds)

by_shape : (n : ℕ) → Shape n (decimal n) → IsNumber (decimal n)
by_shape n s = elim s [ inl z ↦ rw z.1 zero_alone | inr p ↦ counted p.1 ]

below : (n : ℕ) (ds : List ℕ) → Shape (suc n) ds → IsPositive ds
below n ds s = elim s [ inl z ↦ let e : suc n ≡ 0 = z.0 in absurd (omega (arith, e)) | inr p ↦ p.1 ]

-- a number of at most 64 digits
abbrev pub IsShort : ℤ → Type 0
IsShort (pos n) = n < 10 ^ 64
IsShort (negsuc n) = suc n < 10 ^ 64

-- A short number is printed as a number of the lexer.
pub short_number : (n : ℤ) → IsShort n → IsNumber (signed_decimal n)
short_number (pos n) h = by_shape n (decimal_shape n h)
short_number (negsuc n) h = negative (below n (decimal (suc n)) (decimal_shape (suc n) h))

-- ---- how far the digits go

digit_of_word : (b : ℕ) → is_word b ≡ false → is_ascii_digit b ≡ false
digit_of_word b h = grind (arith, nat_tests)

low_of_word : (b : ℕ) → is_word b ≡ false → (b == 95) ≡ false
low_of_word b h = grind (arith, nat_tests)

digits_exact : (t r : List ℕ) → Every is_ascii_digit t → next_passes is_word r ≡ false → digits_len (t ++ r) ≡ length t
digits_exact [] [] h e = refl
digits_exact [] (b ∷ r) h e =
    let x : is_ascii_digit b ≡ false = digit_of_word b e in
    let y : (b == 95) ≡ false = low_of_word b e in
    rw (x, y) refl
digits_exact (b ∷ t) r h e =
    let g : is_ascii_digit b ≡ true = h.0 in
    let i : digits_len (t ++ r) ≡ length t = digits_exact t r h.1 e in
    rw g (omega (arith, i))

digit_not_lower : (b : ℕ) → is_ascii_digit b ≡ true → is_lower b ≡ false
digit_not_lower b h = grind (arith, nat_tests)

digit_not_upper : (b : ℕ) → is_ascii_digit b ≡ true → is_ascii_uppercase b ≡ false
digit_not_upper b h = grind (arith, nat_tests)

pub record NumberOf (text : List ℕ) : Type 0 where
  pub first : ℕ
  pub others : List ℕ
  pub whole : text ≡ first ∷ others
  pub dark : is_white first ≡ false
  pub no_assign : (first == 61) ≡ false
  pub no_match : (first == 126) ≡ false
  pub last : (last_of (first ∷ others) == 58) ≡ false
  pub found : (s : State) (r : List ℕ) → Ready s → next_passes is_word r ≡ false → lexeme s ((first ∷ others) ++ r)
      ≡ l.Token k.Int (length (first ∷ others))

digit_dark : (b : ℕ) → is_ascii_digit b ≡ true → is_white b ≡ false
digit_dark b h = grind (arith, nat_tests)

digit_assign : (b : ℕ) → is_ascii_digit b ≡ true → (b == 61) ≡ false
digit_assign b h = grind (arith, nat_tests)

digit_match : (b : ℕ) → is_ascii_digit b ≡ true → (b == 126) ≡ false
digit_match b h = grind (arith, nat_tests)

abbrev no_colon_byte : ℕ → Bool
no_colon_byte b = not (b == 58)

digit_no_colon : (b : ℕ) → is_ascii_digit b ≡ true → no_colon_byte b ≡ true
digit_no_colon b h = grind (arith, nat_tests)

digits_no_colon : (t : List ℕ) → Every is_ascii_digit t → Every no_colon_byte t
digits_no_colon [] h = tt
digits_no_colon (b ∷ t) h = (digit_no_colon b h.0, digits_no_colon t h.1)

digits_last : (b : ℕ) (t : List ℕ) → is_ascii_digit b ≡ true → Every is_ascii_digit t → (last_of (b ∷ t) == 58) ≡ false
digits_last b t h e = not_true _ (last_passes no_colon_byte b t (digit_no_colon b h) (digits_no_colon t e))

zero_lexeme : (s : State) (r : List ℕ) → text_at s.opens ≡ None → lexeme s (48 ∷ r) ≡ l.Token k.Int 1
unfolding lexeme
zero_lexeme s r h = rw h refl

positive_lexeme : (s : State) (b : ℕ) (t r : List ℕ) → text_at s.opens ≡ None → is_ascii_digit b ≡ true →
    (b == 48) ≡ false → Every is_ascii_digit t → next_passes is_word r ≡ false →
    lexeme s ((b ∷ t) ++ r) ≡ l.Token k.Int (length (b ∷ t))
unfolding lexeme
positive_lexeme s b t r c h z e n =
    let x : is_lower b ≡ false = digit_not_lower b h in
    let y : is_ascii_uppercase b ≡ false = digit_not_upper b h in
    let d : digits_len (t ++ r) ≡ length t = digits_exact t r e n in
    rw (c, x, y, h, z, d) (ap (λ m. l.Token k.Int m) (omega arith))

negative_lexeme : (s : State) (b : ℕ) (t r : List ℕ) → text_at s.opens ≡ None → ends_value s.after ≡ false →
    is_ascii_digit b ≡ true → (b == 48) ≡ false → Every is_ascii_digit t → next_passes is_word r ≡ false →
    lexeme s ((45 ∷ b ∷ t) ++ r) ≡ l.Token k.Int (length (45 ∷ b ∷ t))
unfolding lexeme
negative_lexeme s b t r c v h z e n =
    let d : digits_len (t ++ r) ≡ length t = digits_exact t r e n in
    rw (c, v, h, z, d) (ap (λ m. l.Token k.Int m) (omega arith))

-- A number's parts: its sign and its digits.
pub number_of : (text : List ℕ) → IsNumber text → NumberOf text
number_of _ zero_alone = record {
  first = 48;
  others = [];
  whole = refl;
  dark = refl;
  no_assign = refl;
  no_match =
      refl;
  last = refl;
  found = λ s r h n. zero_lexeme s r h.in_code;
}
number_of _ (counted (positive {b = b} {t = t} h z e)) = record {
  first = b;
  others = t;
  whole = refl;
  dark = digit_dark b h;
  no_assign = digit_assign b h;
  no_match = digit_match b h;
  last = digits_last b t h e;
  found = λ s r g n. positive_lexeme s b t r g.in_code h z e n;
}
number_of _ (negative (positive {b = b} {t = t} h z e)) = record {
  first = 45;
  others = b ∷ t;
  whole = refl;
  dark = refl;
  no_assign = refl;
  no_match = refl;
  last = ap (λ m. m == 58) (last_more 45 b t) ∙ digits_last b t h e;
  found = λ s r g n. negative_lexeme s b t r g.in_code g.no_value h z e n;
}
