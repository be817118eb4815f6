-- `same` level by level.
use Rattle.std.proofs.Common.{◌≡◌, ℕ, suc, Bool, true, false, ◌&&◌, List, [], ◌∷◌, length, map, refl, ap, ◌∙◌, sym}
use Rattle.std.specs.Prelude.{count_by, nat_eq}
use Rattle.std.specs.Str.{bytes_eq}
use Rattle.ruby_types.specs.declared.value.Value.{Value, Value-F, para-roll-Value, out-Value}
use Rattle.ruby_types.specs.declared.value.Value.{roll-out-Value, map-Value}
use Rattle.ruby_types.specs.declared.value.Value.TheOpen as layer
use Rattle.ruby_types.specs.declared.value.Value.TheVariants as v
use Rattle.std.specs.Ordering.{int_eq}
use Rattle.std.proofs.Math.Bool.{and-false}
use Rattle.std.proofs.lemmas.Bool.{eq-eqb}
use Rattle.std.proofs.lemmas.Bool.Decides.{nat_tests}
use Rattle.std.proofs.Common.{arith, eqb}
use Rattle.std.proofs.Common.{zero, subst, ℤ, drop, get_or, ◌<◌, ◌+◌, drop-cons, add-one}
use Rattle.ruby_types.specs.Same.{same, same_both, same_each, same_pair, same_counts, same_layer, pair_of}

abbrev Tested : Type 0
Tested = Value × (Value → Bool)

-- a value with its test
abbrev tested : Value → Tested
tested v = (v, same v)

abbrev tested_pair : Value × Value → Tested × Tested
tested_pair p = (tested p.0, tested p.1)

abbrev test_pair : Tested × Tested → Value × Value → Bool
test_pair = same_pair (λ c. c.1)

abbrev value_pair : Tested × Tested → Value × Value
value_pair = pair_of (λ c. c.0)

each-tested : (xs ys : List Value) → same_each (λ (c : Tested). c.1) (map tested xs) ys ≡ same_each same xs ys
each-tested [] [] = refl
each-tested [] (y ∷ ys) = refl
each-tested (x ∷ xs) [] = refl
each-tested (x ∷ xs) (y ∷ ys) = ap (λ b. same x y && b) (each-tested xs ys)

each-tested_pair : (xs ys : List (Value × Value)) →
    same_each test_pair (map tested_pair xs) ys ≡ same_each same_both xs ys
each-tested_pair [] [] = refl
each-tested_pair [] (y ∷ ys) = refl
each-tested_pair (x ∷ xs) [] = refl
each-tested_pair (x ∷ xs) (y ∷ ys) = ap (λ b. same_both x y && b) (each-tested_pair xs ys)

counts-tested : (ps own other : List (Value × Value)) →
    same_counts test_pair (map tested_pair ps) own other ≡ same_counts same_both ps own other
counts-tested [] own other = refl
counts-tested (p ∷ ps) own other =
    ap (λ b. nat_eq (count_by (same_both p) own) (count_by (same_both p) other) && b) (counts-tested ps own other)

pairs-tested : (ps : List (Value × Value)) → map value_pair (map tested_pair ps) ≡ ps
pairs-tested [] = refl
pairs-tested (p ∷ ps) = ap (λ l. p ∷ l) (pairs-tested ps)

length-tested : (ps : List (Value × Value)) → length (map tested_pair ps) ≡ length ps
length-tested [] = refl
length-tested (p ∷ ps) = ap (λ n. suc n) (length-tested ps)

-- one level, with `same` inside
abbrev pub same_open : Value-F Value → Value-F Value → Bool
same_open (layer.Hash ps) (layer.Hash qs) = nat_eq (length ps) (length qs) && same_counts same_both ps ps qs
same_open x y = same_layer (λ v. v) same x y

same_layer-tested : (x y : Value-F Value) →
    same_layer (λ c. c.0) (λ c. c.1) (map-Value Value Tested tested x) y ≡ same_open x y
same_layer-tested (layer.Array xs) (layer.Array ys) = each-tested xs ys
same_layer-tested (layer.Hash ps) (layer.Hash qs) =
    ap (λ n. nat_eq n (length qs) && same_counts test_pair (map tested_pair ps) (map value_pair (map tested_pair ps))
    qs)
    (length-tested ps)
    ∙ ap (λ l. nat_eq (length ps) (length qs) && same_counts test_pair (map tested_pair ps) l qs) (pairs-tested ps)
    ∙ ap (λ b. nat_eq (length ps) (length qs) && b) (counts-tested ps ps qs)
same_layer-tested (layer.Object p xs) (layer.Object q ys) =
    ap (λ b. same_each bytes_eq p q && b) (each-tested_pair xs ys)
same_layer-tested layer.Nil layer.Nil = refl
same_layer-tested layer.True layer.True = refl
same_layer-tested layer.False layer.False = refl
same_layer-tested (layer.Int m) (layer.Int n) = refl
same_layer-tested (layer.Str m) (layer.Str n) = refl
same_layer-tested (layer.Sym m) (layer.Sym n) = refl
same_layer-tested (layer.Module m) (layer.Module n) = refl
same_layer-tested _ _ = refl

-- values are the same by one level of both
pub same_is : (a b : Value) → same a b ≡ same_open (out-Value a) (out-Value b)
unfolding same
same_is a b =
    ap (λ x. same x b) (sym (roll-out-Value a))
    ∙ ap (λ f. f b)
    (para-roll-Value (Value → Bool) (λ x w. same_layer (λ c. c.0) (λ c. c.1) x (out-Value w)) (out-Value a))
    ∙ same_layer-tested (out-Value a) (out-Value b)

-- ---- by the variants of both

same_at : (a b : Value) (x y : Value-F Value) → out-Value a ≡ x → out-Value b ≡ y → same a b ≡ same_open x y
same_at a b x y p q = same_is a b ∙ ap (λ l. same_open l (out-Value b)) p ∙ ap (λ l. same_open x l) q

-- two numbers
pub same-Int : (a b : Value) (m n : ℤ) → a ≡ v.Int m → b ≡ v.Int n → same a b ≡ int_eq m n
same-Int a b m n p q = same_at a b (layer.Int m) (layer.Int n) (ap out-Value p ∙ v.outs-Int m)
    (ap out-Value q ∙ v.outs-Int n)

-- two texts
pub same-Str : (a b : Value) (s t : List ℕ) → a ≡ v.Str s → b ≡ v.Str t → same a b ≡ bytes_eq s t
same-Str a b s t p q = same_at a b (layer.Str s) (layer.Str t) (ap out-Value p ∙ v.outs-Str s)
    (ap out-Value q ∙ v.outs-Str t)

-- two symbols
pub same-Sym : (a b : Value) (s t : List ℕ) → a ≡ v.Sym s → b ≡ v.Sym t → same a b ≡ bytes_eq s t
same-Sym a b s t p q = same_at a b (layer.Sym s) (layer.Sym t) (ap out-Value p ∙ v.outs-Sym s)
    (ap out-Value q ∙ v.outs-Sym t)

-- two arrays
pub same-Array : (a b : Value) (xs ys : List Value) → a ≡ v.Array xs → b ≡ v.Array ys → same a b ≡ same_each same xs ys
same-Array a b xs ys p q = same_at a b (layer.Array xs) (layer.Array ys) (ap out-Value p ∙ v.outs-Array xs)
    (ap out-Value q ∙ v.outs-Array ys)

-- two hashes
pub same-Hash : (a b : Value) (xs ys : List (Value × Value)) → a ≡ v.Hash xs → b ≡ v.Hash ys →
    same a b ≡ (nat_eq (length xs) (length ys) && same_counts same_both xs xs ys)
same-Hash a b xs ys p q = same_at a b (layer.Hash xs) (layer.Hash ys) (ap out-Value p ∙ v.outs-Hash xs)
    (ap out-Value q ∙ v.outs-Hash ys)

-- two modules
pub same-Module : (a b : Value) (s t : List (List ℕ)) → a ≡ v.Module s → b ≡ v.Module t →
    same a b ≡ same_each bytes_eq s t
same-Module a b s t p q = same_at a b (layer.Module s) (layer.Module t) (ap out-Value p ∙ v.outs-Module s)
    (ap out-Value q ∙ v.outs-Module t)

-- two objects
pub same-Object : (a b : Value) (s t : List (List ℕ)) (xs ys : List (Value × Value)) → a ≡ v.Object s xs →
    b ≡ v.Object t ys → same a b ≡ (same_each bytes_eq s t && same_each same_both xs ys)
same-Object a b s t xs ys p q = same_at a b (layer.Object s xs) (layer.Object t ys)
    (ap out-Value p ∙ v.outs-Object s xs) (ap out-Value q ∙ v.outs-Object t ys)

-- ---- a list of pairs with one pair more read

-- the counts of the pairs from one on are its own and those of the pairs behind it
pub counts-at : (test : Value × Value → Value × Value → Bool) (ps own other : List (Value × Value)) (i : ℕ)
    (d : Value × Value) → i < length ps →
    same_counts test (drop i ps) own other
    ≡ (nat_eq (count_by (test (get_or ps i d)) own) (count_by (test (get_or ps i d)) other) && same_counts test
    (drop (i + 1) ps) own other)
counts-at test ps own other i d h = rw (drop-cons ps i d, add-one) refl

eqb_of_ne : (a b : ℕ) → (a ≡ b → ⊥) → eqb a b ≡ false
eqb_of_ne a b h = grind (arith, nat_tests)

module _ (test : Value × Value → Value × Value → Bool) (ps xs own other : List (Value × Value)) (i : ℕ)
    (d : Value × Value) (w : Bool) (m n : ℕ)
    (same_list : xs ≡ ps) (below : i < length xs) (here : d ≡ get_or xs i d)
    (so_far : same_counts test (drop i ps) own other ≡ w)
    (in_own : m ≡ count_by (test d) own) (in_other : n ≡ count_by (test d) other) where
  counts_here : nat_eq (count_by (test d) own) (count_by (test d) other) && same_counts test
      (drop (i + 1) ps) own other ≡ w
  counts_here =
      let e : get_or ps i d ≡ d = rw (← same_list) (sym here) in
      let h : i < length ps = rw (← same_list) below in
      rw e at (sym (counts-at test ps own other i d h) ∙ so_far)

  -- a pair that stands in the two lists unequally often decides
  pub counts_differ : (m ≡ n → ⊥) → false ≡ w
  counts_differ ne = rw (eqb_of_ne _ _ (λ q. ne (in_own ∙ q ∙ sym in_other))) at counts_here

  -- after a pair that stands in both equally often the others decide
  pub counts_go_on : m ≡ n → same_counts test (drop (i + 1) ps) own other ≡ w
  counts_go_on q = rw (eq-eqb _ _ (sym in_own ∙ q ∙ in_other)) at counts_here

-- ---- one list of pairs against itself

counts_of_one : {P : Type 0} (test : P → Value × Value → Bool) (ps : List P) (pairs : List (Value × Value)) →
    same_counts test ps pairs pairs ≡ true
counts_of_one test [] pairs = refl
counts_of_one test (p ∷ ps) pairs =
    ap (λ b. b && same_counts test ps pairs pairs) (eq-eqb (count_by (test p) pairs) _ refl)
    ∙ counts_of_one test ps pairs

-- a list has its own pairs as often as itself
pub same_list_counts : (ps qs : List (Value × Value)) → ps ≡ qs → true ≡ same_counts same_both ps ps qs
same_list_counts ps qs e =
    sym (ap (λ l. same_counts same_both ps ps l) (sym e) ∙ counts_of_one same_both ps ps)

-- ---- one pair that stands in two lists unequally often

unequal_count : (test : Value × Value → Value × Value → Bool) (ps own other : List (Value × Value)) (i : ℕ)
    (p : Value × Value) → i < length ps → p ≡ get_or ps i p →
    (count_by (test p) own ≡ count_by (test p) other → ⊥) → false ≡ same_counts test ps own other
unequal_count test [] own other i p h at ne = absurd (omega arith)
unequal_count test (q ∷ ps) own other zero p h at ne =
    let e : nat_eq (count_by (test q) own) (count_by (test q) other) ≡ false =
    subst (λ r. nat_eq (count_by (test r) own) (count_by (test r) other) ≡ false) at (eqb_of_ne _ _ ne) in
    ap (λ b. b && same_counts test ps own other) (sym e)
unequal_count test (q ∷ ps) own other (suc i) p h at ne =
    sym (ap (λ b. nat_eq (count_by (test q) own) (count_by (test q) other) && b)
    (sym (unequal_count test ps own other i p (omega arith) at ne))
    ∙ and-false (nat_eq (count_by (test q) own) (count_by (test q) other)))

-- decides that not each pair does
pub counts_are_unequal : (ps xs other : List (Value × Value)) (i : ℕ) (p : Value × Value) (m n : ℕ) → xs ≡ ps →
    i < length xs → p ≡ get_or xs i p → m ≡ count_by (same_both p) ps → n ≡ count_by (same_both p) other →
    (m ≡ n → ⊥) → nat_eq m n ≡ same_counts same_both ps ps other
counts_are_unequal ps xs other i p m n same_list below at in_own in_other ne =
    eqb_of_ne m n ne
    ∙ unequal_count same_both ps ps other i p (rw (← same_list) below) (at ∙ ap (λ l. get_or l i p) same_list)
    (λ q. ne (in_own ∙ q ∙ sym in_other))
