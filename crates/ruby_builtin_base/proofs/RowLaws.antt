-- A table of names and places finds the row that has the name.
use Rattle.std.proofs.Common.{◌≡◌, ◌≢◌, ℕ, zero, suc, ◌+◌, Bool, true, false, ◌&&◌, cond, List, [], ◌∷◌, Option, Some}
use Rattle.std.proofs.Common.{None, IfSome, IfNone, MatchOption, length, ◌≤◌, slice_get, refl, sym, ap, ◌∙◌, subst}
use Rattle.std.proofs.Common.{arith}
use Rattle.std.specs.Str.{bytes_eq}
use Rattle.std.specs.Ordering.{nat_cmp, is_eq}
use Rattle.std.specs.Cmp.Lexicographic.{slice_cmp}
use Rattle.std.specs.declared.cmp.Ordering.{Ordering}
use Rattle.std.specs.declared.cmp.Ordering.TheVariants.{Less, Equal, Greater}
use Rattle.std.proofs.lemmas.Bool.{and_parts, false_from_ne_true}
use Rattle.std.proofs.lemmas.Option.{none-some, same_Some}
use Rattle.std.proofs.lemmas.Cmp.{nat_list_cmp_total}
use Rattle.std.proofs.lemmas.Map.Text.{is_eq-slice_cmp}
use Rattle.std.proofs.lemmas.Slice.Eq.{bytes_eq-Decides}
use Rattle.case_table.specs.Rows.{IsLess, Rising, HasCode, HasNone}
use Rattle.ruby_builtin_base.specs.Rows.{row_of, row_at, numbered}

-- ---- finding

less_differs : (a b : List ℕ) → IsLess a b → bytes_eq a b ≡ false
less_differs a b less = sym (is_eq-slice_cmp a b) ∙ ap is_eq less

same_bytes : (a b : List ℕ) → a ≡ b → bytes_eq a b ≡ true
same_bytes a b e = (bytes_eq-Decides a b).1 e

other_bytes : (a b : List ℕ) → a ≢ b → bytes_eq a b ≡ false
other_bytes a b other = false_from_ne_true (bytes_eq a b) (λ e. other ((bytes_eq-Decides a b).0 e))

later_rise : (r : List ℕ × ℕ) (rows : List (List ℕ × ℕ)) → Rising (r ∷ rows) → Rising rows
later_rise r rows rise = λ i j x y below a b. rise (suc i) (suc j) x y (omega (arith, below)) a b

-- the row at whose place a name stands is the row of that name
found_from : {Row : Type 0} (rows : List (List ℕ × Row)) (first i : ℕ) (name : List ℕ) (place : ℕ) →
    Rising (numbered first rows) → slice_get (numbered first rows) i ≡ Some (name, place) →
    (place ≡ first + i) × (row_of rows name ≡ row_at rows i)
unfolding row_of
found_from [] first i name place rise at = absurd (none-some (name, place) at)
found_from (row ∷ rows) first zero name place rise at =
    let e : (row.0, first) ≡ (name, place) = same_Some (row.0, first) (name, place) at in (
      omega (arith, ap (λ p. p.1) e),
      ap (λ b. cond b (Some row.1) (row_of rows name)) (same_bytes row.0 name (ap (λ p. p.0) e)),
    )
found_from (row ∷ rows) first (suc i) name place rise at =
    let rest = found_from rows (first + 1) i name place (later_rise (row.0, first) (numbered (first + 1) rows) rise)
    at in
    let less : IsLess row.0 name = rise 0 (suc i) (row.0, first) (name, place) (omega arith) refl at in (
      omega (arith, rest.0),
      ap (λ b. cond b (Some row.1) (row_of rows name)) (less_differs row.0 name less) ∙ rest.1,
    )

-- what a table of places finds is the row of the name
pub found_is_row : {Row : Type 0} (rows : List (List ℕ × Row)) (name : List ℕ) (place : ℕ) →
    Rising (numbered 0 rows) → HasCode (numbered 0 rows) name place → row_of rows name ≡ row_at rows place
found_is_row rows name place rise has =
    let found = found_from rows 0 has.0 name place rise has.1 in
    found.1 ∙ ap (row_at rows) (omega (arith, found.0))

-- a name that a table of places lacks has no row
pub none_is_no_row : {Row : Type 0} (rows : List (List ℕ × Row)) (first : ℕ) (name : List ℕ) →
    HasNone (numbered first rows) name → row_of rows name ≡ None
unfolding row_of
none_is_no_row [] first name none = refl
none_is_no_row (row ∷ rows) first name none =
    ap (λ b. cond b (Some row.1) (row_of rows name)) (other_bytes row.0 name (none 0 (row.0, first) refl))
    ∙ none_is_no_row rows (first + 1) name (λ i r at. none (suc i) r at)

-- no row stands behind the last
pub no_row_behind : {Row : Type 0} (rows : List (List ℕ × Row)) (place : ℕ) → length rows ≤ place →
    row_at rows place ≡ None
no_row_behind [] place behind = refl
no_row_behind (row ∷ rows) zero behind = absurd (omega arith)
no_row_behind (row ∷ rows) (suc place) behind = no_row_behind rows place (omega arith)

-- what is found among the places of rows is the row of the name, or that there is none
pub place_is_row : {Row : Type 0} (rows : List (List ℕ × Row)) (name : List ℕ) (found : Option ℕ) →
    Rising (numbered 0 rows) → IfSome found (HasCode (numbered 0 rows) name) →
    IfNone found (HasNone (numbered 0 rows) name) →
    MatchOption found (row_of rows name ≡ None) (λ place. row_of rows name ≡ row_at rows place)
place_is_row rows name None rise found none = none_is_no_row rows 0 name none
place_is_row rows name (Some place) rise found none = found_is_row rows name place rise found

-- ---- rows of which each name is less than the next

abbrev is_less : Ordering → Bool
is_less Less = true
is_less Equal = false
is_less Greater = false

less_is : (o : Ordering) → is_less o ≡ true → o ≡ Less
less_is Less e = refl
less_is Equal e = cc
less_is Greater e = cc

-- each name is less than the next
abbrev pub rises : List (List ℕ × ℕ) → Bool
rises [] = true
rises (r ∷ []) = true
rises (r ∷ s ∷ rows) = is_less (slice_cmp nat_cmp r.0 s.0) && rises (s ∷ rows)

first_is_less : (r : List ℕ × ℕ) (rows : List (List ℕ × ℕ)) (j : ℕ) (s : List ℕ × ℕ) → rises (r ∷ rows) ≡ true →
    slice_get rows j ≡ Some s → IsLess r.0 s.0
first_is_less r [] j s rise at = absurd (none-some s at)
first_is_less r (x ∷ rows) zero s rise at =
    subst (λ (p : List ℕ × ℕ). IsLess r.0 p.0) (same_Some x s at)
    (less_is (slice_cmp nat_cmp r.0 x.0) (and_parts _ _ rise).0)
first_is_less r (x ∷ rows) (suc j) s rise at =
    let parts = and_parts _ _ rise in
    nat_list_cmp_total.trans r.0 x.0 s.0 (less_is (slice_cmp nat_cmp r.0 x.0) parts.0)
    (first_is_less x rows j s parts.1 at)

rest_rises : (r : List ℕ × ℕ) (rows : List (List ℕ × ℕ)) → rises (r ∷ rows) ≡ true → rises rows ≡ true
rest_rises r [] rise = refl
rest_rises r (x ∷ rows) rise = (and_parts _ _ rise).1

-- each name of such rows is less than each later one
pub rows_are_rising : (rows : List (List ℕ × ℕ)) → rises rows ≡ true → Rising rows
rows_are_rising [] rise i j r s below a b = absurd (none-some r a)
rows_are_rising (x ∷ rows) rise zero zero r s below a b = absurd (omega arith)
rows_are_rising (x ∷ rows) rise zero (suc j) r s below a b =
    subst (λ (p : List ℕ × ℕ). IsLess p.0 s.0) (same_Some x r a) (first_is_less x rows j s rise b)
rows_are_rising (x ∷ rows) rise (suc i) zero r s below a b = absurd (omega arith)
rows_are_rising (x ∷ rows) rise (suc i) (suc j) r s below a b =
    rows_are_rising rows (rest_rises x rows rise) i j r s (omega (arith, below)) a b
