-- Variables from a place on: what an assignment leaves before it, and the parameters so far.
use Rattle.std.proofs.Common.{◌≡◌, ℕ, zero, suc, ◌+◌, ◌<◌, ◌≤◌, Bool, true, false, List, [], ◌∷◌, ◌++◌, take, drop}
use Rattle.std.proofs.Common.{length, get_or, Option, Some, refl, sym, ap, ◌∙◌, arith, add-one, append_assoc, take_all}
use Rattle.std.specs.Prelude.{if◌then◌else◌, slice_get, slice_set}
use Rattle.std.proofs.Math.Seq.{drop-cons, drop-nil, take-suc}
use Rattle.std.proofs.lemmas.Option.{get_or_from_slice_get}
use Rattle.ruby_types.specs.declared.value.Value.{Value}
use Rattle.program_places.specs.Paths.{Name}
use Rattle.ruby_runs.specs.Bodies.{Variables, bound}

-- one parameter more with its argument
bound_push : (ps : List Name) (vs : List Value) (p : Name) (a : Value) → length ps ≡ length vs →
    bound (ps ++ p ∷ []) (vs ++ a ∷ []) ≡ bound ps vs ++ (p, a) ∷ []
bound_push [] [] p a is = refl
bound_push (x ∷ ps) (y ∷ vs) p a is = ap (λ l. (x, y) ∷ l) (bound_push ps vs p a (omega (arith, is)))
bound_push [] (y ∷ vs) p a is = absurd (omega (arith, is))
bound_push (x ∷ ps) [] p a is = absurd (omega (arith, is))

lengths_alike : {A B : Type 0} (i : ℕ) (xs : List A) (ys : List B) → length xs ≡ length ys →
    length (take i xs) ≡ length (take i ys)
lengths_alike zero xs ys is = refl
lengths_alike (suc i) [] [] is = refl
lengths_alike (suc i) (x ∷ xs) (y ∷ ys) is = ap suc (lengths_alike i xs ys (omega (arith, is)))
lengths_alike (suc i) [] (y ∷ ys) is = absurd (omega (arith, is))
lengths_alike (suc i) (x ∷ xs) [] is = absurd (omega (arith, is))

-- the parameters before a place, and the one there
pub bound_step : (ps : List Name) (vs : List Value) (i : ℕ) (p : Name) (v : Value) (ls : Variables) → i < length ps →
    length ps ≡ length vs → slice_get ps i ≡ Some p → slice_get vs i ≡ Some v → ls ≡ bound (take i ps) (take i vs) →
    ls ++ (p, v) ∷ [] ≡ bound (take (i + 1) ps) (take (i + 1) vs)
bound_step ps vs i p v ls lt same is at so =
    let first : take (i + 1) ps ≡ take i ps ++ p ∷ [] = ap (λ n. take n ps) (add-one i)
    ∙ (take-suc ps i p lt ∙ ap (λ x. take i ps ++ x ∷ []) (get_or_from_slice_get ps i p p is)) in
    let second : take (i + 1) vs ≡ take i vs ++ v ∷ [] = ap (λ n. take n vs) (add-one i)
    ∙ (take-suc vs i v (omega (arith, lt, same))
    ∙ ap (λ x. take i vs ++ x ∷ []) (get_or_from_slice_get vs i v v at)) in
    ap (λ l. l ++ (p, v) ∷ []) so ∙ (sym (bound_push (take i ps) (take i vs) p v (lengths_alike i ps vs same))
    ∙ (ap (λ l. bound l (take i vs ++ v ∷ [])) (sym first) ∙ ap (λ l. bound (take (i + 1) ps) l) (sym second)))

drop_past : {A : Type 0} (xs : List A) (n : ℕ) → length xs ≤ n → drop n xs ≡ []
drop_past [] n le = drop-nil n
drop_past (x ∷ xs) zero le = absurd (omega (arith, le))
drop_past (x ∷ xs) (suc n) le = drop_past xs n (omega (arith, le))

set_is : {A : Type 0} (l : List A) (i : ℕ) (y : A) → i < length l →
    slice_set l i y ≡ take i l ++ y ∷ drop (suc i) l
set_is [] i y lt = absurd (omega (arith, lt))
set_is (x ∷ l) zero y lt = refl
set_is (x ∷ l) (suc i) y lt = ap (λ r. x ∷ r) (set_is l i y (omega (arith, lt)))

-- an assignment among variables: the first that is meant takes the value, or it comes behind them
module _ {A : Type 0} (f : List A → List A) (meant : A → Bool) (assigned : A → A)
    (step : (x : A) (rest : List A) → f (x ∷ rest) ≡ (if meant x then assigned x ∷ rest else x ∷ f rest)) where
  -- what stands at a place is the first of those from it on
  cut : (l : List A) (i : ℕ) (x : A) → i < length l → x ≡ get_or l i x → f l ≡ take i l ++ f (drop i l) →
      f l ≡ take i l ++ (if meant x then assigned x ∷ drop (suc i) l else x ∷ f (drop (suc i) l))
  cut l i x lt is so = so ∙ ap (λ r. take i l ++ r)
      (ap f (drop-cons l i x lt ∙ ap (λ y. y ∷ drop (suc i) l) (sym is)) ∙ step x (drop (suc i) l))

  -- the variable at a place is meant
  pub assigned_at : (l : List A) (i : ℕ) (x : A) → i < length l → x ≡ get_or l i x → meant x ≡ true →
      f l ≡ take i l ++ f (drop i l) → f l ≡ slice_set l i (assigned x)
  assigned_at l i x lt is holds so = cut l i x lt is so
      ∙ (ap (λ b. take i l ++ (if b then assigned x ∷ drop (suc i) l else x ∷ f (drop (suc i) l))) holds
      ∙ sym (set_is l i (assigned x) lt))

  -- it isn't
  pub assigned_later : (l : List A) (i : ℕ) (x : A) → i < length l → x ≡ get_or l i x → meant x ≡ false →
      f l ≡ take i l ++ f (drop i l) → f l ≡ take (i + 1) l ++ f (drop (i + 1) l)
  assigned_later l i x lt is fails so = cut l i x lt is so
      ∙ (ap (λ b. take i l ++ (if b then assigned x ∷ drop (suc i) l else x ∷ f (drop (suc i) l))) fails
      ∙ (sym (append_assoc (take i l) (x ∷ []) (f (drop (suc i) l)))
      ∙ (ap (λ y. (take i l ++ y ∷ []) ++ f (drop (suc i) l)) is
      ∙ (ap (λ y. y ++ f (drop (suc i) l)) (sym (take-suc l i x lt))
      ∙ ap (λ n. take n l ++ f (drop n l)) (sym (add-one i))))))

  -- none is
  pub assigned_behind : (l : List A) (i : ℕ) (y : A) → f [] ≡ y ∷ [] → length l ≤ i → f l ≡ take i l ++ f (drop i l) →
      f l ≡ l ++ y ∷ []
  assigned_behind l i y first le so = so ∙ (ap (λ r. r ++ f (drop i l)) (take_all i l le)
      ∙ ap (λ r. l ++ r) (ap f (drop_past l i le) ∙ first))
