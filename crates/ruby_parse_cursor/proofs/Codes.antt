-- The code that the table gives a name is the name's terminal.
use Rattle.std.proofs.Common.{◌≡◌, ℕ, zero, suc, Bool, true, ◌&&◌, ◌==◌, List, [], ◌∷◌, Some, slice_get}
use Rattle.std.proofs.Common.{refl, sym, subst, ◌∙◌}
use Rattle.std.proofs.lemmas.Bool.{and_parts, cases_Bool, cond-false, eqb-true, ltb-true}
use Rattle.std.proofs.lemmas.Option.{none-some, same_Some}
use Rattle.std.proofs.lemmas.Slice.Eq.{bytes_eq-Decides}
use Rattle.std.specs.Prelude.{bytes_eq, nat_lt}
use Rattle.std.proofs.Common.{⊎_elim, ◌<◌, cond, false, lit<}
use Rattle.case_table.specs.Rows.{HasCode, HasNone}
use Rattle.ruby_words.specs.Words.{word_rows}
use Rattle.ruby_grammar.specs.Terminals.{code_in, name_terminal}

abbrev Row : Type 0
Row = List ℕ × ℕ

-- each of these rows is the first of all that has its name
abbrev are_found : List Row → List Row → Bool
are_found all [] = true
are_found all (r ∷ rows) = (code_in all r.0 == r.1) && are_found all rows

found_first : (all rows : List Row) (i : ℕ) (r : Row) → are_found all rows ≡ true → slice_get rows i ≡ Some r →
    code_in all r.0 ≡ r.1
found_first all [] i r h e = absurd (none-some r e)
found_first all (x ∷ rows) zero r h e = subst (λ (q : Row). code_in all q.0 ≡ q.1) (same_Some x r e)
    (eqb-true (code_in all x.0) x.1 (and_parts _ _ h).0)
found_first all (x ∷ rows) (suc i) r h e = found_first all rows i r (and_parts _ _ h).1 e

words_are_found : are_found word_rows word_rows ≡ true
words_are_found = refl

-- The code that a row of the table gives is the terminal of the name.
pub has_code : (rows : List Row) (name : List ℕ) (code : ℕ) → rows ≡ word_rows → HasCode rows name code →
    code ≡ name_terminal name
has_code rows name code e h =
    let get : slice_get word_rows h.0 ≡ Some (name, code) =
    subst (λ (l : List Row). slice_get l h.0 ≡ Some (name, code)) e h.1 in
    sym (found_first word_rows word_rows h.0 (name, code) words_are_found get)

none_in : (rows : List Row) (name : List ℕ) → HasNone rows name → code_in rows name ≡ 0
none_in [] name h = refl
none_in (x ∷ rows) name h =
    ⊎_elim
    (λ y. absurd (h 0 x refl ((bytes_eq-Decides x.0 name).0 y)))
    (λ n. cond-false (bytes_eq x.0 name) x.1 (code_in rows name) n ∙ none_in rows name (λ i r e. h (suc i) r e))
    (cases_Bool (bytes_eq x.0 name))

-- A name that no row has is no word.
pub has_none : (rows : List Row) (name : List ℕ) → rows ≡ word_rows → HasNone rows name → 0 ≡ name_terminal name
has_none rows name e h = sym (none_in word_rows name (subst (λ (l : List Row). HasNone l name) e h))

low_if : (b : Bool) (m n : ℕ) → m < 48 → n < 48 → cond b m n < 48
low_if true m n h k = h
low_if false m n h k = k

abbrev are_low : List Row → Bool
are_low [] = true
are_low (r ∷ rows) = nat_lt r.1 48 && are_low rows

low_in : (rows : List Row) (name : List ℕ) → are_low rows ≡ true → code_in rows name < 48
low_in [] name h = lit< tt
low_in (x ∷ rows) name h = low_if (bytes_eq x.0 name) x.1 (code_in rows name) (ltb-true x.1 48 (and_parts _ _ h).0)
    (low_in rows name (and_parts _ _ h).1)

words_are_low : are_low word_rows ≡ true
words_are_low = refl

-- No name has a code above those of the words.
pub name_is_low : (name : List ℕ) → name_terminal name < 48
name_is_low name = low_in word_rows name words_are_low
