-- A text that loses nothing is whole.
use Rattle.std.proofs.Common.{◌≡◌, ℕ, ◌≤◌, Bool, true, false, cond, List, [], ◌∷◌, length, reverse, refl, sym}
use Rattle.std.proofs.Common.{ap, ◌∙◌, arith}
use Rattle.std.proofs.lemmas.List.{length-reverse, reverse-reverse}
use Rattle.ruby_builtin_texts.specs.Parts.{is_white, without_leading_white, without_trailing_white, stripped}

not_longer_before : (byte : ℕ) (bytes : List ℕ) (white : Bool) → length (without_leading_white bytes) ≤ length bytes →
    length (cond white (without_leading_white bytes) (byte ∷ bytes)) ≤ length (byte ∷ bytes)
not_longer_before byte bytes true le = omega arith
not_longer_before byte bytes false le = omega arith

length-without_leading_white : (text : List ℕ) → length (without_leading_white text) ≤ length text
length-without_leading_white [] = omega arith
length-without_leading_white (byte ∷ bytes) =
    not_longer_before byte bytes (is_white byte) (length-without_leading_white bytes)

no_white : (byte : ℕ) (bytes : List ℕ) (white : Bool) → length (without_leading_white bytes) ≤ length bytes →
    length (byte ∷ bytes) ≤ length (cond white (without_leading_white bytes) (byte ∷ bytes)) →
    byte ∷ bytes ≡ cond white (without_leading_white bytes) (byte ∷ bytes)
no_white byte bytes true le whole = absurd (omega arith)
no_white byte bytes false le whole = refl

whole_from_start : (text : List ℕ) → length text ≤ length (without_leading_white text) →
    text ≡ without_leading_white text
whole_from_start [] whole = refl
whole_from_start (byte ∷ bytes) whole =
    no_white byte bytes (is_white byte) (length-without_leading_white bytes) whole

whole_to_end : (text : List ℕ) → length text ≤ length (without_trailing_white text) →
    text ≡ without_trailing_white text
whole_to_end text whole =
    let turned : length (reverse text) ≤ length (without_leading_white (reverse text)) =
    omega (arith, whole, length-reverse text, length-reverse (without_leading_white (reverse text))) in
    sym (reverse-reverse text) ∙ ap reverse (whole_from_start (reverse text) turned)

length-without_trailing_white : (text : List ℕ) → length (without_trailing_white text) ≤ length text
length-without_trailing_white text =
    omega (
      arith,
      length-reverse text,
      length-reverse (without_leading_white (reverse text)),
      length-without_leading_white (reverse text),
    )

-- a text that isn't longer than its stripped part has no white bytes at its ends
pub whole_is_stripped : (text : List ℕ) → length text ≤ length (stripped text) → text ≡ stripped text
whole_is_stripped text whole =
    let both = length-without_trailing_white (without_leading_white text) in
    let behind = length-without_leading_white text in
    let first : length text ≤ length (without_leading_white text) = omega arith in
    let second : length (without_leading_white text) ≤ length (without_trailing_white (without_leading_white text)) =
    omega arith in
    whole_from_start text first ∙ whole_to_end (without_leading_white text) second
