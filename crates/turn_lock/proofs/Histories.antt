-- Lemmas on histories: entries of a number, and beginnings.
use Rattle.std.proofs.Common.{◌≡◌, ◌≢◌, ℕ, ◌≤◌, List, [], ◌∷◌, ◌++◌, length, Bool, true, false, refl, sym, subst, cond}
use Rattle.std.proofs.Common.{ap, ◌∙◌, arith, append_assoc, append-nil}
use Rattle.std.specs.Prelude.{nat_le}
use borrow.Author.Tests.{leb-true, leb-false}
use Rattle.turn_lock.specs.Entries.{NoneOf, Lags, Begins, longer}

module _ {A : Type 0} where
  -- a list without members is the empty one
  pub length-zero : (l : List A) → length l ≡ 0 → l ≡ []
  length-zero [] e = refl
  length-zero (x ∷ xs) e = absurd (omega arith)

  -- a beginning of a history begins it still when it has one entry more
  pub begins_after : (log now front : List A) (e : A) → now ≡ log ++ e ∷ [] → Begins front log → Begins front now
  begins_after log now front e is b =
      (b.0 ++ e ∷ [], is ∙ (ap (λ l. l ++ e ∷ []) b.1 ∙ append_assoc front b.0 (e ∷ [])))

module _ {E : Type 0} (seat_of : E → ℕ) where
  -- one entry more, of another number
  pub none_push : (k : ℕ) (es : List E) (e : E) → NoneOf seat_of k es → seat_of e ≢ k → NoneOf seat_of k (es ++ e ∷ [])
  none_push k [] e n h = (h, tt)
  none_push k (x ∷ xs) e n h = (n.0, none_push k xs e n.1 h)

  -- no entry of the number in the whole: none in the end of it
  pub none_after : (k : ℕ) (xs ys : List E) → NoneOf seat_of k (xs ++ ys) → NoneOf seat_of k ys
  none_after k [] ys n = n
  none_after k (x ∷ xs) ys n = none_after k xs ys n.1

  -- no entry of the number in the whole: none in its beginning
  pub none_before : (k : ℕ) (xs ys : List E) → NoneOf seat_of k (xs ++ ys) → NoneOf seat_of k xs
  none_before k [] ys n = tt
  none_before k (x ∷ xs) ys n = (n.0, none_before k xs ys n.1)

  -- no entry of the number in two lists: none in both after one another
  pub none-append : (k : ℕ) (xs ys : List E) → NoneOf seat_of k xs → NoneOf seat_of k ys → NoneOf seat_of k (xs ++ ys)
  none-append k [] ys x y = y
  none-append k (e ∷ xs) ys x y = (x.0, none-append k xs ys x.1 y)

  -- what a number has seen lags still when another number adds an entry
  pub lags_push : (k : ℕ) (seen log : List E) (e : E) → Lags seat_of k seen log → seat_of e ≢ k →
      Lags seat_of k seen (log ++ e ∷ [])
  lags_push k seen log e h apart = record {
    more = h.more ++ e ∷ [];
    is = ap (λ l. l ++ e ∷ []) h.is ∙ append_assoc seen h.more (e ∷ []);
    none = none_push k h.more e h.none apart;
  }

  -- who has seen the whole history lags by nothing
  pub lags_none : (k : ℕ) (seen log : List E) → seen ≡ log → Lags seat_of k seen log
  lags_none k seen log e = record { more = []; is = sym e ∙ sym (append-nil seen); none = tt }

  -- what was seen lags by nothing behind itself
  pub lags_refl : (k : ℕ) (seen : List E) → Lags seat_of k seen seen
  lags_refl k seen = lags_none k seen seen refl

  -- what was seen at one turn lags behind what is seen at each later one
  pub lags-trans : (k : ℕ) (a b c : List E) → Lags seat_of k a b → Lags seat_of k b c → Lags seat_of k a c
  lags-trans k a b c x y = record {
    more = x.more ++ y.more;
    is = y.is ∙ (ap (λ l. l ++ y.more) x.is ∙ append_assoc a x.more y.more);
    none = none-append k x.more y.more x.none y.none;
  }

  -- of two beginnings of one list the shorter begins the longer
  two_begin : (xs ys a b : List E) → xs ++ a ≡ ys ++ b → length ys ≤ length xs → (c : List E) × (xs ≡ ys ++ c)
      × (b ≡ c ++ a)
  two_begin xs [] a b e l = (xs, refl, sym e)
  two_begin [] (y ∷ ys) a b e l = absurd (omega arith)
  two_begin (x ∷ xs) (y ∷ ys) a b e l =
      let head : x ≡ y = cc in
      let tail : xs ++ a ≡ ys ++ b = cc in
      let t = two_begin xs ys a b tail (omega arith) in
      (t.0, (λ i. head i ∷ t.1 i), t.2)

  -- of two beginnings of one history the longer one begins with both, and what comes in between is of other numbers
  pub compare : (k : ℕ) (seen heard log : List E) → Lags seat_of k seen log → Begins heard log →
      Lags seat_of k seen (longer seen heard) × Begins heard (longer seen heard)
      × Lags seat_of k (longer seen heard) log
  compare k seen heard log l h = by_test (nat_le (length heard) (length seen)) refl
    where
      by_test : (b : Bool) → nat_le (length heard) (length seen) ≡ b → Lags seat_of k seen (cond b seen heard)
          × Begins heard (cond b seen heard) × Lags seat_of k (cond b seen heard) log
      by_test true e = let t = two_begin seen heard l.more h.0 (sym l.is ∙ h.1) (leb-true _ _ e) in
          (lags_none k seen seen refl, (t.0, t.1), l)
      by_test false e = let le = leb-false (length heard) (length seen) e in
          let t = two_begin heard seen h.0 l.more (sym h.1 ∙ l.is) (omega arith) in
          let none = subst (NoneOf seat_of k) t.2 l.none in (
            record { more = t.0; is = t.1; none = none_before k t.0 h.0 none },
            ([], sym (append-nil heard)),
            record { more = h.0; is = h.1; none = none_after k t.0 h.0 none },
          )
