-- A name of another shape than the words' is none of them.
use Rattle.std.proofs.Common.{◌≡◌, ℕ, zero, suc, Bool, true, false, ◌&&◌, List, [], ◌∷◌, Some, None, Option, length}
use Rattle.std.proofs.Common.{slice_get, refl, sym, subst, ◌∙◌, ap, get_or, ◌<◌, ◌≤◌, arith}
use Rattle.std.proofs.lemmas.Bool.{and_parts}
use Rattle.case_table.specs.Rows.{HasNone}
use Rattle.ruby_words.specs.Words.{word_rows}
use Rattle.ruby_words.specs.Shapes.{is_shape}

abbrev Row : Type 0
Row = List ℕ × ℕ

abbrev is_shaped : List ℕ → Bool
is_shaped [] = false
is_shaped (b ∷ bs) = is_shape b (length (b ∷ bs))

abbrev are_shaped : List Row → Bool
are_shaped [] = true
are_shaped (r ∷ rows) = is_shaped r.0 && are_shaped rows

words_are_shaped : are_shaped word_rows ≡ true
words_are_shaped = refl

no_row : (P : Type 0) (r : Row) → ◌≡◌ {A = Option Row} None (Some r) → P
no_row P r e = absurd (cc)

one_row : (r s : Row) → ◌≡◌ {A = Option Row} (Some r) (Some s) → r ≡ s
one_row r s e = cc

shaped_at : (rows : List Row) (i : ℕ) (r : Row) → are_shaped rows ≡ true → slice_get rows i ≡ Some r →
    is_shaped r.0 ≡ true
shaped_at [] i r h e = no_row _ r e
shaped_at (x ∷ rows) zero r h e = subst (λ (q : Row). is_shaped q.0 ≡ true) (one_row x r e) (and_parts _ _ h).0
shaped_at (x ∷ rows) (suc i) r h e = shaped_at rows i r (and_parts _ _ h).1 e

wrong : {A : Type 0} → false ≡ true → A
wrong e = absurd (cc)

-- no row has a name of another shape
none_shaped : (rows : List Row) (name : List ℕ) → rows ≡ word_rows → is_shaped name ≡ false → HasNone rows name
none_shaped rows name e o = subst (λ (l : List Row). HasNone l name) (sym e)
    (λ i r get is. wrong (sym o ∙ (ap is_shaped (sym is) ∙ shaped_at word_rows i r words_are_shaped get)))

-- No row has an empty name.
pub none_empty : (rows : List Row) (name : List ℕ) → rows ≡ word_rows → length name < 1 → HasNone rows name
none_empty rows [] e h = none_shaped rows [] e refl
none_empty rows (b ∷ bs) e h = absurd (omega (arith, h))

-- No row has a name of another first byte or length than the words.
pub none_begun : (rows : List Row) (name : List ℕ) → rows ≡ word_rows → 1 ≤ length name →
    is_shape (get_or name 0 0) (length name) ≡ false → HasNone rows name
none_begun rows [] e h o = absurd (omega (arith, h))
none_begun rows (b ∷ bs) e h o = none_shaped rows (b ∷ bs) e o
