-- The words rise, so they make a table.
use Rattle.std.proofs.Common.{◌≡◌, ℕ, zero, suc, ◌+◌, Bool, true, false, ◌&&◌, List, [], ◌∷◌, Some, None, Option}
use Rattle.std.proofs.Common.{slice_get, refl, subst, arith}
use Rattle.std.proofs.lemmas.Bool.{and_parts}
use Rattle.std.specs.Ordering.{nat_cmp}
use Rattle.std.specs.Cmp.Lexicographic.{slice_cmp}
use Rattle.std.specs.declared.cmp.Ordering.{Ordering}
use Rattle.std.specs.declared.cmp.Ordering.TheVariants.{Less, Equal, Greater}
use Rattle.case_table.specs.Rows.{IsLess, IsFault}
use Rattle.case_table.specs.declared.CaseFault.{CaseFault}
use Rattle.case_table.specs.declared.CaseFault.TheVariants.{NotRising}
use Rattle.ruby_words.specs.Words.{word_rows}

abbrev Row : Type 0
Row = List ℕ × ℕ

abbrev is_less : Ordering → Bool
is_less Less = true
is_less Equal = false
is_less Greater = false

less_is : (o : Ordering) → is_less o ≡ true → o ≡ Less
less_is Less e = refl
less_is Equal e = cc
less_is Greater e = cc

abbrev rises : List Row → Bool
rises [] = true
rises (r ∷ []) = true
rises (r ∷ s ∷ rows) = is_less (slice_cmp nat_cmp r.0 s.0) && rises (s ∷ rows)

no_row : (P : Type 0) (r : Row) → ◌≡◌ {A = Option Row} None (Some r) → P
no_row P r e = absurd (cc)

one_row : (r s : Row) → ◌≡◌ {A = Option Row} (Some r) (Some s) → r ≡ s
one_row r s e = cc

-- of rows that rise each is less than the next
next_rises : (rows : List Row) (i n : ℕ) (r s : Row) → n ≡ i + 1 → rises rows ≡ true → slice_get rows i ≡ Some r →
    slice_get rows n ≡ Some s → IsLess r.0 s.0
next_rises [] i n r s e h a b = no_row _ r a
next_rises (x ∷ []) zero zero r s e h a b = absurd (omega arith)
next_rises (x ∷ []) zero (suc n) r s e h a b = no_row _ s b
next_rises (x ∷ []) (suc i) n r s e h a b = no_row _ r a
next_rises (x ∷ y ∷ rows) zero zero r s e h a b = absurd (omega arith)
next_rises (x ∷ y ∷ rows) zero (suc zero) r s e h a b =
    let first : x ≡ r = one_row x r a in
    let second : y ≡ s = one_row y s b in
    let less = less_is (slice_cmp nat_cmp x.0 y.0) (and_parts _ _ h).0 in
    subst (λ (p : Row). IsLess p.0 s.0) first (subst (λ (p : Row). IsLess x.0 p.0) second less)
next_rises (x ∷ y ∷ rows) zero (suc (suc n)) r s e h a b = absurd (omega arith)
next_rises (x ∷ y ∷ rows) (suc i) zero r s e h a b = absurd (omega arith)
next_rises (x ∷ y ∷ rows) (suc i) (suc n) r s e h a b = next_rises (y ∷ rows) i n r s (omega arith)
    (and_parts _ _ h).1 a b

words_rise : rises word_rows ≡ true
words_rise = refl

-- No fault can be told of the words.
pub words_make_a_table : (fault : CaseFault) → ¬ (IsFault word_rows fault)
words_make_a_table (NotRising n) f =
    f.falls (next_rises word_rows f.before n f.earlier f.later f.next words_rise f.earlier_at f.later_at)
