-- An index finds the first pair with a key, and is kept as pairs come and values change.
use Rattle.std.proofs.Common.{◌≡◌, ℕ, zero, suc, ◌+◌, ◌-◌, ◌<◌, ◌≤◌, ◌%◌, Bool, true, false, cond, List, [], ◌∷◌, ◌++◌}
use Rattle.std.proofs.Common.{Option, Some, None, length, get_or, set, slice_get, length-append, append_assoc}
use Rattle.std.proofs.Common.{refl, ap, sym, ◌∙◌, arith}
use Rattle.std.proofs.Common.{nat_eq, inl, inr, zero-add, append-nil}
use Rattle.std.proofs.Math.ListN.{length-set}
use Rattle.std.proofs.lemmas.Bool.{false≢true, eq-eqb, cases_eq}
use Rattle.std.proofs.lemmas.Option.{slice_get_within}
use Rattle.std.proofs.lemmas.Bool.Decides.{nat_tests}
use Rattle.ruby_types.specs.Same.{same}
use Rattle.ruby_types.specs.declared.value.Value.{Value}
use Rattle.ruby_builtin_keys.specs.Digest.{digest}
use Rattle.ruby_builtin_keys.specs.Merging.{put}
use Rattle.ruby_builtin_keys.specs.Places.{Pair, belongs, places, IsIndex, has_key, first_of, first_at}
use Rattle.ruby_builtin_keys.proofs.DigestLaws.{same_digest}

-- ---- finding

get_behind : (front : List Pair) (p : Pair) (ps : List Pair) → slice_get (front ++ p ∷ ps) (length front) ≡ Some p
get_behind [] p ps = refl
get_behind (q ∷ front) p ps = get_behind front p ps

-- at one pair: it has the key, or it is passed
module _ (all : List Pair) (key : Value) (here : ℕ) (p : Pair) (rest : List ℕ) (later : Option ℕ)
    (at : slice_get all here ≡ Some p) (goes_on : first_of all key rest ≡ later) where
  found_or_later : (s t : Bool) → same p.0 key ≡ s → (s ≡ true → t ≡ true) →
      first_of all key (cond t (here ∷ rest) rest) ≡ cond s (Some here) later
  found_or_later true true is hit = ap (λ b. cond b (Some here) (first_of all key rest)) (ap (has_key key) at ∙ is)
  found_or_later false true is hit =
      ap (λ b. cond b (Some here) (first_of all key rest)) (ap (has_key key) at ∙ is) ∙ goes_on
  found_or_later true false is hit = absurd (false≢true (hit refl))
  found_or_later false false is hit = goes_on

found_from : (test : ℕ → Bool) (key : Value) → test (digest key) ≡ true → (front ps : List Pair) (first : ℕ) →
    first ≡ length front →
    first_of (front ++ ps) key (places test first ps) ≡ first_at first ps key
found_from test key hit front [] first is = refl
found_from test key hit front (p ∷ ps) first is =
    let next : first_of (front ++ p ∷ ps) key (places test (first + 1) ps) ≡ first_at (first + 1) ps key =
    ap (λ all. first_of all key (places test (first + 1) ps)) (sym (append_assoc front (p ∷ []) ps))
    ∙ found_from test key hit (front ++ p ∷ []) ps (first + 1) (omega (arith, length-append front (p ∷ []))) in
    found_or_later (front ++ p ∷ ps) key first p (places test (first + 1) ps) (first_at (first + 1) ps key)
    (ap (slice_get (front ++ p ∷ ps)) is ∙ get_behind front p ps) next (same p.0 key) (test (digest p.0)) refl
    (λ e. ap test (same_digest p.0 key e) ∙ hit)

-- the places of the row of a key have the first pair with it
pub found_by_index : (rows : List (List ℕ)) (pairs : List Pair) (key : Value) (row : ℕ) (found : List ℕ) →
    IsIndex rows pairs → row ≡ digest key % length rows → slice_get rows row ≡ Some found →
    first_of pairs key found ≡ first_at 0 pairs key
found_by_index rows pairs key row found is of_key at =
    ap (first_of pairs key) (is row found at)
    ∙ found_from (belongs (length rows) row) key (eq-eqb _ _ (sym of_key)) [] pairs 0 refl

-- ---- putting

new_here : (first : ℕ) (p pair : Pair) (ps : List Pair) (s : Bool) →
    (first_at (first + 1) ps pair.0 ≡ None → put ps pair ≡ ps ++ pair ∷ []) →
    cond s (Some first) (first_at (first + 1) ps pair.0) ≡ None →
    cond s ((p.0, pair.1) ∷ ps) (p ∷ put ps pair) ≡ p ∷ (ps ++ pair ∷ [])
new_here first p pair ps true later e = absurd (cc)
new_here first p pair ps false later e = ap (λ l. p ∷ l) (later e)

-- where no pair has the key, the new pair comes behind the others
pub put_behind : (first : ℕ) (pairs : List Pair) (pair : Pair) → first_at first pairs pair.0 ≡ None →
    put pairs pair ≡ pairs ++ pair ∷ []
put_behind first [] pair none = refl
put_behind first (p ∷ ps) pair none =
    new_here first p pair ps (same p.0 pair.0) (λ e. put_behind (first + 1) ps pair e) none

-- putting at a place, among pairs counted from a first place on
pub record Replaces (first : ℕ) (pairs : List Pair) (pair : Pair) (place : ℕ) : Type 0 where
  pub from_first : first ≤ place
  pub within : place < first + length pairs
  pub replaced : put pairs pair ≡ set pairs (place - first) ((get_or pairs (place - first) pair).0, pair.1)

one_on : (n first : ℕ) → first + 1 ≤ n → n - first ≡ suc (n - (first + 1))
one_on n first h = omega arith

replaces_here : (first : ℕ) (p pair : Pair) (ps : List Pair) (place : ℕ) (s : Bool) → same p.0 pair.0 ≡ s →
    (first_at (first + 1) ps pair.0 ≡ Some place → Replaces (first + 1) ps pair place) →
    cond s (Some first) (first_at (first + 1) ps pair.0) ≡ Some place → Replaces first (p ∷ ps) pair place
replaces_here first p pair ps place true is later e =
    let here : first ≡ place = (cc) in
    let none_before : place - first ≡ 0 = omega arith in
    record {
      from_first = omega arith;
      within = omega arith;
      replaced = rw none_before (ap (λ b. cond b ((p.0, pair.1) ∷ ps) (p ∷ put ps pair)) is);
    }
replaces_here first p pair ps place false is later e =
    let rest = later e in
    let next = one_on place first rest.from_first in
    record {
      from_first = omega arith;
      within = omega arith;
      replaced = rw next (ap (λ b. cond b ((p.0, pair.1) ∷ ps) (p ∷ put ps pair)) is ∙ ap (λ l. p ∷ l) rest.replaced);
    }

-- where a pair has the key, its value is replaced
pub put_at : (first : ℕ) (pairs : List Pair) (pair : Pair) (place : ℕ) → first_at first pairs pair.0 ≡ Some place →
    Replaces first pairs pair place
put_at first [] pair place some = absurd (cc)
put_at first (p ∷ ps) pair place some =
    replaces_here first p pair ps place (same p.0 pair.0) refl (λ e. put_at (first + 1) ps pair place e) some

-- ---- keeping the index

-- a new pair adds its place to the row into which it belongs
one_later : (n m : ℕ) → n + suc m ≡ n + 1 + m
one_later n m = omega arith

push_here : (t u : Bool) (first more : ℕ) (grown old : List ℕ) → grown ≡ old ++ cond u ((first + 1 + more) ∷ []) [] →
    cond t (first ∷ grown) grown ≡ cond t (first ∷ old) old ++ cond u ((first + suc more) ∷ []) []
push_here true u first more grown old e = rw (one_later first more) (ap (λ l. first ∷ l) e)
push_here false u first more grown old e = rw (one_later first more) e

places-push : (test : ℕ → Bool) (first : ℕ) (pairs : List Pair) (pair : Pair) →
    places test first (pairs ++ pair ∷ [])
    ≡ places test first pairs ++ cond (test (digest pair.0)) ((first + length pairs) ∷ []) []
places-push test first [] pair = ap (λ n. cond (test (digest pair.0)) (n ∷ []) []) (omega arith)
places-push test first (p ∷ ps) pair =
    push_here (test (digest p.0)) (test (digest pair.0)) first (length ps) _ _ (places-push test (first + 1) ps pair)

-- another value at a place moves no place
places-set : (test : ℕ → Bool) (first : ℕ) (pairs : List Pair) (i : ℕ) (pair d : Pair) →
    pair.0 ≡ (get_or pairs i d).0 → i < length pairs → places test first (set pairs i pair) ≡ places test first pairs
places-set test first [] i pair d same within = refl
places-set test first (p ∷ ps) zero pair d same within =
    ap (λ k. cond (test (digest k)) (first ∷ places test (first + 1) ps) (places test (first + 1) ps)) same
places-set test first (p ∷ ps) (suc i) pair d same within =
    ap (λ l. cond (test (digest p.0)) (first ∷ l) l) (places-set test (first + 1) ps i pair d same (omega arith))

get-set_same : {X : Type 0} (xs : List X) (i : ℕ) (x : X) → i < length xs → slice_get (set xs i x) i ≡ Some x
get-set_same [] i x within = absurd (omega arith)
get-set_same (y ∷ xs) zero x within = refl
get-set_same (y ∷ xs) (suc i) x within = get-set_same xs i x (omega arith)

get-set_other : {X : Type 0} (xs : List X) (i j : ℕ) (x : X) → (j ≡ i → ⊥) → slice_get (set xs i x) j ≡ slice_get xs j
get-set_other [] i j x apart = refl
get-set_other (y ∷ xs) zero zero x apart = absurd (apart refl)
get-set_other (y ∷ xs) zero (suc j) x apart = refl
get-set_other (y ∷ xs) (suc i) zero x apart = refl
get-set_other (y ∷ xs) (suc i) (suc j) x apart = get-set_other xs i j x (λ e. apart (ap suc e))

one_some : {X : Type 0} (x y : X) (o : Option X) → o ≡ Some x → o ≡ Some y → x ≡ y
one_some x y o a b = cc

unequal : (m n : ℕ) → (n ≡ m → ⊥) → nat_eq m n ≡ false
unequal m n apart = grind (arith, nat_tests)

-- the row of the new pair's key, and every other row
module _ (rows : List (List ℕ)) (pairs : List Pair) (pair : Pair) (row : ℕ) (found : List ℕ)
    (is : IsIndex rows pairs) (of_key : row ≡ digest pair.0 % length rows) (at : slice_get rows row ≡ Some found) where
  abbrev longer : List ℕ
  longer = found ++ length pairs ∷ []

  abbrev test : ℕ → ℕ → Bool
  test = belongs (length rows)

  own_row : (i : ℕ) (other : List ℕ) → i ≡ row → slice_get (set rows row longer) i ≡ Some other →
      other ≡ places (test i) 0 (pairs ++ pair ∷ [])
  own_row i other e other_at =
      one_some other longer (slice_get (set rows row longer) row) (rw e at other_at)
      (get-set_same rows row longer (slice_get_within rows row found at))
      ∙ ap (λ l. l ++ length pairs ∷ []) (is i found (ap (slice_get rows) e ∙ at))
      ∙ sym (places-push (test i) 0 pairs pair
      ∙ ap (λ b. places (test i) 0 pairs ++ cond b ((0 + length pairs) ∷ []) []) (eq-eqb _ _ (sym of_key ∙ sym e))
      ∙ ap (λ n. places (test i) 0 pairs ++ n ∷ []) (zero-add (length pairs)))

  other_row : (i : ℕ) (other : List ℕ) → (i ≡ row → ⊥) → slice_get (set rows row longer) i ≡ Some other →
      other ≡ places (test i) 0 (pairs ++ pair ∷ [])
  other_row i other apart other_at =
      is i other (sym (get-set_other rows row i longer apart) ∙ other_at)
      ∙ sym (append-nil (places (test i) 0 pairs))
      ∙ sym (places-push (test i) 0 pairs pair
      ∙ ap (λ b. places (test i) 0 pairs ++ cond b ((0 + length pairs) ∷ []) [])
      (unequal (digest pair.0 % length rows) i (λ e. apart (e ∙ sym of_key))))

  -- a new pair's place goes into the row of its key
  pub index-push : IsIndex (set rows row (found ++ length pairs ∷ [])) (pairs ++ pair ∷ [])
  index-push = λ i other other_at.
      rw (length-set rows row longer) (elim (cases_eq i row) [
        | inl e ↦ own_row i other e other_at
        | inr apart ↦ other_row i other apart other_at
      ])

-- another value at a place keeps the index
pub index-set : (rows : List (List ℕ)) (pairs : List Pair) (i : ℕ) (pair d : Pair) → IsIndex rows pairs →
    pair.0 ≡ (get_or pairs i d).0 → i < length pairs → IsIndex rows (set pairs i pair)
index-set rows pairs i pair d is same within = λ row found at.
    is row found at ∙ sym (places-set (belongs (length rows) row) 0 pairs i pair d same within)
