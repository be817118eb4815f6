-- The operator found is the longest one.
use Rattle.std.proofs.Common.{◌≡◌, ℕ, zero, suc, ◌<◌, ◌≤◌, List, [], ◌∷◌, ◌++◌, Option, Some, length, refl, ap, sym}
use Rattle.std.proofs.Common.{take, arith, true, false, Bool, inl, inr, ◌⊎◌, ◌==◌, ◌&&◌, ◌||◌, not, nat_le, nat_eq}
use Rattle.std.proofs.lemmas.Bool.{eq-eqb}
use Rattle.std.proofs.lemmas.Bool.Decides.{nat_tests}
use Rattle.std.proofs.lemmas.List.{take-append-le}
use Rattle.std.specs.List.{starts_with}
use Rattle.ruby_token.specs.declared.token.Op.{Op}
use Rattle.ruby_token.specs.Operators.{operators}
use Rattle.ruby_token.specs.Steps.{operator_at, first_in}
use Rattle.ruby_token.specs.Lexemes.{Row, first_row, later_row}
use Rattle.std.specs.Char.{is_ascii_digit, is_ascii_uppercase}
use Rattle.ruby_token.specs.Bytes.{is_word, is_lower, is_white, is_line_end, is_quote, next_passes}

-- at most is less or equal: splits a length that may be the longest
pub le_cases : (n m : ℕ) → n ≤ m → (n < m) ⊎ (n ≡ m)
le_cases zero zero h = inr refl
le_cases zero (suc m) h = inl (omega arith)
le_cases (suc n) zero h = absurd (omega arith)
le_cases (suc n) (suc m) h = elim (le_cases n m (omega arith)) [ inl a ↦ inl (omega arith) | inr e ↦ inr (ap suc e) ]

-- where both of two tests pass the first does
pub and_left : (a b : Bool) → (a && b) ≡ true → a ≡ true
and_left true b h = refl
and_left false b h = cc

-- where both of two tests pass the second does
pub and_right : (a b : Bool) → (a && b) ≡ true → b ≡ true
and_right true b h = h
and_right false b h = cc

-- a test whose negation passes fails
pub not_true : (a : Bool) → not a ≡ true → a ≡ false
not_true true h = cc
not_true false h = refl

-- two rows of one text
abbrev clash : List ℕ → List ℕ → Bool
clash t q = nat_eq (length t) (length q) && starts_with nat_eq t q

abbrev below : List ℕ × Op → List (List ℕ × Op) → Bool
below q [] = true
below q (p ∷ rs) = (nat_le (length p.0) (length q.0) && not (clash p.0 q.0)) && below q rs

-- longer rows first, and no text twice
abbrev ranked : List (List ℕ × Op) → Bool
ranked [] = true
ranked (q ∷ rs) = below q rs && ranked rs

-- a byte that begins no word, number, gap, line or text: an operator may begin with it
abbrev pub is_mark : ℕ → Bool
is_mark c = not (is_lower c ||
    (is_ascii_uppercase c || (is_ascii_digit c || (is_white c || ((c == 35) || (is_line_end c || is_quote c))))))

-- what each operator's text meets: it begins with a mark, and no letter, digit or `_` comes second
abbrev pub text_ok : List ℕ → Bool
text_ok [] = false
text_ok (c ∷ cs) = is_mark c && not (next_passes is_word cs)

abbrev all_ok : List (List ℕ × Op) → Bool
all_ok [] = true
all_ok (q ∷ rs) = text_ok q.0 && all_ok rs

row_ok : (rs : List (List ℕ × Op)) (t : List ℕ) (x : Op) → Row rs t x → all_ok rs ≡ true → text_ok t ≡ true
row_ok _ t x (first_row {rs = rs}) h = and_left (text_ok t) (all_ok rs) h
row_ok _ t x (later_row {q = q} {rs = rs} m) h = row_ok rs t x m (and_right (text_ok q.0) (all_ok rs) h)

row_below : (rs : List (List ℕ × Op)) (q : List ℕ × Op) (t : List ℕ) (x : Op) → Row rs t x → below q rs ≡ true →
    (nat_le (length t) (length q.0) && not (clash t q.0)) ≡ true
row_below _ q t x (first_row {rs = rs}) h = and_left (nat_le (length t) (length q.0) && not (clash t q.0))
    (below q rs) h
row_below _ q t x (later_row {q = p} {rs = rs} m) h =
    row_below rs q t x m (and_right (nat_le (length p.0) (length q.0) && not (clash p.0 q.0)) (below q rs) h)

begins : (t r : List ℕ) → starts_with nat_eq (t ++ r) t ≡ true
begins [] r = refl
begins (b ∷ t) r = let e : nat_eq b b ≡ true = eq-eqb b b refl in rw e (begins t r)

pub record Found (o : Option (Op × ℕ)) (t : List ℕ) (x : Op) : Type 0 where
  pub what : Op × ℕ
  pub is : o ≡ Some what
  pub best : (length t < what.1) ⊎ (what ≡ (x, length t))

later : (v : Bool) (q : List ℕ × Op) (rs : List (List ℕ × Op)) (t r : List ℕ) (x : Op) →
    v ≡ starts_with nat_eq (t ++ r) q.0 → (nat_le (length t) (length q.0) && not (clash t q.0)) ≡ true →
    Found (first_in rs (t ++ r)) t x → Found (first_in (q ∷ rs) (t ++ r)) t x
later false q rs t r x e h f =
    record { what = f.what; is = (let g : starts_with nat_eq (t ++ r) q.0 ≡ false = sym e in rw g f.is); best = f.best }
later true q rs t r x e h f =
    let g : starts_with nat_eq (t ++ r) q.0 ≡ true = sym e in
    let a : nat_le (length t) (length q.0) ≡ true = and_left _ _ h in
    let b : clash t q.0 ≡ false = not_true _ (and_right (nat_le (length t) (length q.0)) _ h) in
    let le : length t ≤ length q.0 = grind (arith, nat_tests) in
    let far : (length t < length q.0) ⊎ ((q.1, length q.0) ≡ (x, length t)) =
    elim (le_cases (length t) (length q.0) le) [
      | inl l ↦ inl l
      | inr l ↦
          let le2 : length q.0 ≤ length t = omega arith in
          let te : take (length q.0) (t ++ r) ≡ take (length q.0) t = take-append-le (length q.0) t r le2 in
          let g' : starts_with nat_eq t q.0 ≡ true = rw te at g in
          let n : nat_eq (length t) (length q.0) ≡ true = eq-eqb (length t) (length q.0) l in
          let z : clash t q.0 ≡ true = rw (n, g') refl in
          cc
    ] in
    record { what = (q.1, length q.0); is = rw g refl; best = far }

-- in a table whose longer rows come first, the first row that fits is no shorter than any other that fits
pub longest_row : (rs : List (List ℕ × Op)) (t r : List ℕ) (x : Op) → Row rs t x → ranked rs ≡ true →
    Found (first_in rs (t ++ r)) t x
longest_row _ t r x (first_row {rs = rs}) h =
    record {
      what = (x, length t);
      is = (let g : starts_with nat_eq (t ++ r) t ≡ true = begins t r in rw g refl);
      best = inr refl;
    }
longest_row _ t r x (later_row {q = q} {rs = rs} m) h =
    later (starts_with nat_eq (t ++ r) q.0) q rs t r x refl
    (row_below rs q t x m (and_left (below q rs) (ranked rs) h))
    (longest_row rs t r x m (and_right (below q rs) (ranked rs) h))

-- each row of the operators begins with a mark and has no letter, digit or `_` behind it
pub operator_ok : (t : List ℕ) (x : Op) → Row operators t x → text_ok t ≡ true
operator_ok t x m = row_ok operators t x m refl

-- before an operator's text the lexer finds that operator or a longer one
pub operator_longest : (t r : List ℕ) (x : Op) → Row operators t x → Found (operator_at (t ++ r)) t x
unfolding operator_at
operator_longest t r x m = longest_row operators t r x m refl

pub record Mark (c : ℕ) : Type 0 where
  pub lower : is_lower c ≡ false
  pub upper : is_ascii_uppercase c ≡ false
  pub digit : is_ascii_digit c ≡ false
  pub white : is_white c ≡ false
  pub comment : (c == 35) ≡ false
  pub line : is_line_end c ≡ false
  pub quote : is_quote c ≡ false

or_false : (a b : Bool) → not (a || b) ≡ true → (a ≡ false) × (not b ≡ true)
or_false true b h = cc
or_false false b h = (refl, h)

-- that a byte is a mark, taken apart: each of the other classes of bytes refuses it
pub is_of_mark : (c : ℕ) → is_mark c ≡ true → Mark c
is_of_mark c h =
    let a = or_false (is_lower c) _ h in
    let b = or_false (is_ascii_uppercase c) _ a.1 in
    let d = or_false (is_ascii_digit c) _ b.1 in
    let e = or_false (is_white c) _ d.1 in
    let f = or_false (c == 35) _ e.1 in
    let g = or_false (is_line_end c) _ f.1 in
    record { lower = a.0; upper = b.0; digit = d.0; white = e.0; comment = f.0; line = g.0; quote = not_true _ g.1 }

-- the first byte of an operator is a mark, so the lexer comes to its table of operators
pub ok_mark : (c : ℕ) (cs : List ℕ) → text_ok (c ∷ cs) ≡ true → Mark c
ok_mark c cs h = is_of_mark c (and_left (is_mark c) (not (next_passes is_word cs)) h)

-- behind an operator's first byte stands no word of its own, so `-`, `@` and `:` aren't taken for other tokens
pub ok_next : (c : ℕ) (cs : List ℕ) → text_ok (c ∷ cs) ≡ true → next_passes is_word cs ≡ false
ok_next c cs h = not_true _ (and_right (is_mark c) (not (next_passes is_word cs)) h)
