-- What digits are worth, and the text of their number.
use Rattle.std.proofs.lemmas.Bool.Decides.{nat_tests}
use Rattle.std.proofs.Common.{◌≡◌, ℕ, ◌<◌, ◌≤◌, ◌^◌, List, [], ◌∷◌, length, true, false, arith, subst, sym, ap, ◌∙◌}
use Rattle.std.specs.Prelude.{Err, Some}
use Rattle.std.specs.Fmt.{decimal}
use Rattle.std.specs.Str.{all_ascii_digits, IsUtf8}
use Rattle.std.specs.Str.Parse.{digits_value, ParsesUnsigned}
use Rattle.std.proofs.lemmas.Str.{IsUtf8-from_ascii}
use Rattle.std.proofs.lemmas.Str.Parse.{IsNumeralModel, numerals_by_value, tells_all_ascii_digits, parse_digits}
use Rattle.std.proofs.lemmas.Fmt.{IsAscii-from_digits, decimal-digits_value}
use Rattle.word_forms.specs.Numbers.{begins_with_zero, value_within}

-- digits by the test, and what they are worth
digits_model : IsNumeralModel (λ ds. all_ascii_digits ds ≡ true) (digits_value 10)
digits_model = numerals_by_value _ tells_all_ascii_digits

-- digits are UTF-8, so that they can be parsed as a text
pub digits_are_utf8 : (word : List ℕ) → all_ascii_digits word ≡ true → IsUtf8 word
digits_are_utf8 word digits = IsUtf8-from_ascii word (IsAscii-from_digits word (digits_model.to word digits))

-- digits that aren't parsed are worth too much
pub not_parsed_is_large : (word text : List ℕ) → all_ascii_digits word ≡ true → 0 < length word → text ≡ word →
    ParsesUnsigned {E = Unit {0}} 32 10 text (Err tt) → 2 ^ 32 ≤ digits_value 10 word
not_parsed_is_large word text digits some same reads =
    let parses = subst (λ (t : List ℕ). ParsesUnsigned {E = Unit {0}} 32 10 t (Err tt)) same reads in
    let refused = parse_digits digits_model {E = Unit {0}} 32 word (Err tt) parses digits in
    let large : digits_value 10 word < 2 ^ 32 → ⊥ = λ fits. refused (some, fits) in
    omega (arith, large)

-- a number within a limit is that number
within_is : (most number n : ℕ) → value_within most number ≡ Some n → n ≡ number
within_is most number n = grind (arith, nat_tests)

-- a word of digits without a leading 0 is the text of its number
pub digits_are_printed : (most number n : ℕ) (word : List ℕ) → number ≡ digits_value 10 word → number < 2 ^ 32 →
    begins_with_zero word ≡ false → all_ascii_digits word ≡ true → 0 < length word →
    value_within most number ≡ Some n → word ≡ decimal n
digits_are_printed most number n [] is fits first digits some within = absurd (omega arith)
digits_are_printed most number n (byte ∷ rest) is fits first digits some within =
    let same : n ≡ digits_value 10 (byte ∷ rest) = within_is most number n within ∙ is in
    let not_zero : byte ≡ 48 → length (byte ∷ rest) ≡ 1 = λ zero. absurd (grind (arith, nat_tests)) in
    let printed = decimal-digits_value digits_model (byte ∷ rest) digits (omega arith) not_zero (omega arith) in
    sym printed ∙ ap decimal (sym same)
