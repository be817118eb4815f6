-- Two letters are the same exactly where they are equal.
use Rattle.std.proofs.Common.{refl, sym}
use Rattle.std.proofs.lemmas.Bool.{true≢false}
use Rattle.system_events.specs.Facts.{SameIsEqual}
use Rattle.system_core_cases.specs.declared.letters.Letter.TheVariants.{A, B, C}
use Rattle.system_core_cases.specs.Letters.{letters}

-- `same_letter` is equality
pub same_is_equal : SameIsEqual letters
same_is_equal A A = (λ same. refl, λ equal. refl)
same_is_equal B B = (λ same. refl, λ equal. refl)
same_is_equal C C = (λ same. refl, λ equal. refl)
same_is_equal A B = (λ same. absurd (true≢false (sym same)), λ equal. absurd (cc))
same_is_equal A C = (λ same. absurd (true≢false (sym same)), λ equal. absurd (cc))
same_is_equal B A = (λ same. absurd (true≢false (sym same)), λ equal. absurd (cc))
same_is_equal B C = (λ same. absurd (true≢false (sym same)), λ equal. absurd (cc))
same_is_equal C A = (λ same. absurd (true≢false (sym same)), λ equal. absurd (cc))
same_is_equal C B = (λ same. absurd (true≢false (sym same)), λ equal. absurd (cc))
