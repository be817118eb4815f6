-- Whether another seat's row passes a test, by counting the rows that do, and after one row changed.
use Rattle.std.proofs.Common.{◌≡◌, ◌≢◌, ℕ, zero, suc, ◌+◌, ◌<◌, ◌≤◌, nat_lt, Bool, true, false, cond, ◌||◌, List, []}
use Rattle.std.proofs.Common.{◌∷◌, length, get_or, set, slice_get, Some, refl, sym, ap, ◌∙◌, arith}
use Rattle.std.proofs.lemmas.Bool.{lt-ltb, or_parts, or_from, or_left, or_right}
use Rattle.std.proofs.lemmas.Option.{none-some, same_Some}
use Rattle.std.proofs.lemmas.Bool.Decides.{nat_tests}
use Rattle.std.proofs.lemmas.List.Sums.{sum_by-cons, get_or-le-sum_by}
use Rattle.std.specs.List.{count_by, list_any}
use Rattle.share_lock.specs.declared.seat.Row.{Row}
use Rattle.share_lock.specs.Rows.{another}
use Rattle.share_lock.specs.Counted.{count_one}

count-cons : (test : Row → Bool) (row : Row) (rows : List Row) →
    count_by test (row ∷ rows) ≡ count_one test row + count_by test rows
count-cons test row rows = sum_by-cons (count_one test) row rows

list_any_count : (test : Row → Bool) (rows : List Row) → list_any test rows ≡ nat_lt 0 (count_by test rows)
list_any_count test [] = refl
list_any_count test (row ∷ rows) = step (list_any_count test rows) (test row) refl
  where
    step : list_any test rows ≡ nat_lt 0 (count_by test rows) → (b : Bool) → test row ≡ b →
        (test row || list_any test rows) ≡ nat_lt 0 (count_by test (row ∷ rows))
    step ih true is =
        let more : count_by test (row ∷ rows) ≡ 1 + count_by test rows = count-cons test row rows
        ∙ ap (λ b. cond b 1 0 + count_by test rows) is in
        ap (λ b. b || list_any test rows) is ∙ sym (lt-ltb 0 (count_by test (row ∷ rows)) (omega arith))
    step ih false is =
        let same : count_by test (row ∷ rows) ≡ 0 + count_by test rows = count-cons test row rows
        ∙ ap (λ b. cond b 1 0 + count_by test rows) is in
        let equal : count_by test rows ≡ count_by test (row ∷ rows) = omega arith in
        ap (λ b. b || list_any test rows) is ∙ (ih ∙ ap (λ n. nat_lt 0 n) equal)

lt_shift : (own others : ℕ) → nat_lt 0 others ≡ nat_lt own (own + others)
lt_shift own others = grind (arith, nat_tests)

-- another seat passes exactly where more pass than the seat itself
pub another_count : (test : Row → Bool) (rows : List Row) (seat : ℕ) (d : Row) → seat < length rows →
    another test rows seat ≡ nat_lt (count_one test (get_or rows seat d)) (count_by test rows)
another_count test [] seat d below = absurd (omega arith)
another_count test (row ∷ rows) zero d below =
    list_any_count test rows
    ∙ (lt_shift (count_one test row) (count_by test rows)
    ∙ ap (λ n. nat_lt (count_one test row) n) (sym (count-cons test row rows)))
another_count test (row ∷ rows) (suc seat) d below = step (another_count test rows seat d (omega arith)) (test row) refl
  where
    step : another test rows seat ≡ nat_lt (count_one test (get_or rows seat d)) (count_by test rows) → (b : Bool) →
        test row ≡ b
        → (test row || another test rows seat) ≡ nat_lt (count_one test (get_or rows seat d))
        (count_by test (row ∷ rows))
    step ih true is =
        let more : count_by test (row ∷ rows) ≡ 1 + count_by test rows = count-cons test row rows
        ∙ ap (λ b. cond b 1 0 + count_by test rows) is in
        let within : count_one test (get_or rows seat d) ≤ count_by test rows =
        get_or-le-sum_by (count_one test) rows seat d
        (omega arith) in
        ap (λ b. b || another test rows seat) is
        ∙ sym (lt-ltb (count_one test (get_or rows seat d)) (count_by test (row ∷ rows)) (omega arith))
    step ih false is =
        let same : count_by test (row ∷ rows) ≡ 0 + count_by test rows = count-cons test row rows
        ∙ ap (λ b. cond b 1 0 + count_by test rows) is in
        let equal : count_by test rows ≡ count_by test (row ∷ rows) = omega arith in
        ap (λ b. b || another test rows seat) is ∙ (ih ∙ ap (λ n. nat_lt (count_one test (get_or rows seat d)) n) equal)

-- a change of the seat's own row
pub another-set_same : (test : Row → Bool) (rows : List Row) (seat : ℕ) (row : Row) →
    another test (set rows seat row) seat ≡ another test rows seat
another-set_same test [] seat row = refl
another-set_same test (r ∷ rows) zero row = refl
another-set_same test (r ∷ rows) (suc seat) row = ap (λ b. test r || b) (another-set_same test rows seat row)

list_any-set_false : (test : Row → Bool) (rows : List Row) (seat : ℕ) (row : Row) → test row ≡ false →
    list_any test rows ≡ false → list_any test (set rows seat row) ≡ false
list_any-set_false test [] seat row fails none = none
list_any-set_false test (r ∷ rows) zero row fails none = or_from (test row) (list_any test rows) fails
    (or_parts (test r) (list_any test rows) none).1
list_any-set_false test (r ∷ rows) (suc seat) row fails none =
    let parts : (test r ≡ false) × (list_any test rows ≡ false) = or_parts (test r) (list_any test rows) none in
    or_from (test r) (list_any test (set rows seat row)) parts.0 (list_any-set_false test rows seat row fails parts.1)

-- a row that fails, put in the place of any seat
pub another-set_false : (test : Row → Bool) (rows : List Row) (owner seat : ℕ) (row : Row) → test row ≡ false →
    another test rows owner ≡ false → another test (set rows seat row) owner ≡ false
another-set_false test [] owner seat row fails none = none
another-set_false test (r ∷ rows) zero zero row fails none = none
another-set_false test (r ∷ rows) zero (suc seat) row fails none = list_any-set_false test rows seat row fails none
another-set_false test (r ∷ rows) (suc owner) zero row fails none =
    or_from (test row) (another test rows owner) fails (or_parts (test r) (another test rows owner) none).1
another-set_false test (r ∷ rows) (suc owner) (suc seat) row fails none =
    let parts : (test r ≡ false) × (another test rows owner ≡ false) =
    or_parts (test r) (another test rows owner) none in
    or_from (test r) (another test (set rows seat row) owner) parts.0
    (another-set_false test rows owner seat row fails parts.1)

list_any_false_at : (test : Row → Bool) (rows : List Row) → list_any test rows ≡ false → (seat : ℕ) (row : Row) →
    slice_get rows seat ≡ Some row → test row ≡ false
list_any_false_at test [] none seat row is = absurd (none-some row is)
list_any_false_at test (r ∷ rows) none zero row is =
    ap test (sym (same_Some r row is)) ∙ (or_parts (test r) (list_any test rows) none).0
list_any_false_at test (r ∷ rows) none (suc seat) row is =
    list_any_false_at test rows (or_parts (test r) (list_any test rows) none).1 seat row is

-- where no other seat passes, each other seat fails
pub another_false_at : (test : Row → Bool) (rows : List Row) (owner : ℕ) → another test rows owner ≡ false →
    (seat : ℕ) (row : Row) → seat ≢ owner → slice_get rows seat ≡ Some row → test row ≡ false
another_false_at test [] owner none seat row other is = absurd (none-some row is)
another_false_at test (r ∷ rows) zero none zero row other is = absurd (other refl)
another_false_at test (r ∷ rows) zero none (suc seat) row other is = list_any_false_at test rows none seat row is
another_false_at test (r ∷ rows) (suc owner) none zero row other is =
    ap test (sym (same_Some r row is)) ∙ (or_parts (test r) (another test rows owner) none).0
another_false_at test (r ∷ rows) (suc owner) none (suc seat) row other is =
    another_false_at test rows owner (or_parts (test r) (another test rows owner) none).1 seat row
    (λ same. other (ap suc same)) is

list_any_true_at : (test : Row → Bool) (rows : List Row) (seat : ℕ) (row : Row) → slice_get rows seat ≡ Some row →
    test row ≡ true → list_any test rows ≡ true
list_any_true_at test [] seat row is passes = absurd (none-some row is)
list_any_true_at test (r ∷ rows) zero row is passes = or_left (test r) (list_any test rows)
    (ap test (same_Some r row is) ∙ passes)
list_any_true_at test (r ∷ rows) (suc seat) row is passes = or_right (test r) (list_any test rows)
    (list_any_true_at test rows seat row is passes)

-- where some other seat passes, another one does
pub another_true_at : (test : Row → Bool) (rows : List Row) (owner seat : ℕ) (row : Row) → seat ≢ owner →
    slice_get rows seat ≡ Some row → test row ≡ true → another test rows owner ≡ true
another_true_at test [] owner seat row other is passes = absurd (none-some row is)
another_true_at test (r ∷ rows) zero zero row other is passes = absurd (other refl)
another_true_at test (r ∷ rows) zero (suc seat) row other is passes = list_any_true_at test rows seat row is passes
another_true_at test (r ∷ rows) (suc owner) zero row other is passes =
    or_left (test r) (another test rows owner) (ap test (same_Some r row is) ∙ passes)
another_true_at test (r ∷ rows) (suc owner) (suc seat) row other is passes =
    or_right (test r) (another test rows owner)
    (another_true_at test rows owner seat row (λ same. other (ap suc same)) is passes)
