use Rattle.std.proofs.Common.{◌≡◌, ℕ, zero, suc, ◌<◌, ◌≤◌, ◌+◌, List, [], ◌∷◌, Option, Some, map, slice_get, length}
use Rattle.std.proofs.Common.{get_or, refl, ap, sym, ◌∙◌, subst, arith, inl, inr, ◌⊎◌}
use Rattle.std.specs.Ordering.{nat_cmp, ordering_reverse}
use Rattle.std.specs.Cmp.Lexicographic.{slice_cmp}
use Rattle.std.specs.declared.cmp.Ordering.TheVariants.{Less, Equal, Greater}
use Rattle.std.proofs.lemmas.Cmp.{nat_list_cmp_total}
use Rattle.std.proofs.lemmas.Map.Lookups.{exact_bytes}
use Rattle.case_table.specs.Rows.{IsLess, Rising, RisingTo, HasNone}

-- What is at most a number is less than it, or it.
pub le_cases : (n m : ℕ) → n ≤ m → (n < m) ⊎ (n ≡ m)
le_cases zero zero h = inr refl
le_cases zero (suc m) h = inl (omega arith)
le_cases (suc n) zero h = absurd (omega arith)
le_cases (suc n) (suc m) h = elim (le_cases n m (omega arith)) [ inl a ↦ inl (omega arith) | inr e ↦ inr (ap suc e) ]

-- What a function gives of the element at a place.
pub get_map : {A B : Type 0} (f : A → B) (xs : List A) (i : ℕ) (x : A) → i < length xs → x ≡ get_or xs i x →
    slice_get (map f xs) i ≡ Some (f x)
get_map f [] i x h e = absurd (omega arith)
get_map f (y ∷ xs) zero x h e = ap (λ z. Some (f z)) (sym e)
get_map f (y ∷ xs) (suc i) x h e = get_map f xs i x (omega arith) e

same_row : {A : Type 0} (o : Option A) (a b : A) → o ≡ Some a → o ≡ Some b → a ≡ b
same_row o a b h g = cc

turned : (a b : List ℕ) → slice_cmp nat_cmp a b ≡ Greater → slice_cmp nat_cmp b a ≡ Less
turned a b h = let e = nat_list_cmp_total.antisymm b a in e ∙ ap ordering_reverse h

back : (a b : List ℕ) → slice_cmp nat_cmp b a ≡ Less → slice_cmp nat_cmp a b ≡ Greater
back a b h = let e = nat_list_cmp_total.antisymm a b in e ∙ ap ordering_reverse h

-- Rows up to one whose name is less have lesser names.
pub below_more : (ps : List (List ℕ × ℕ)) (m : ℕ) (q : List ℕ × ℕ) (name : List ℕ) → Rising ps →
    slice_get ps m ≡ Some q → slice_cmp nat_cmp q.0 name ≡ Less → (i : ℕ) (r : List ℕ × ℕ) → i < m + 1 →
    slice_get ps i ≡ Some r → slice_cmp nat_cmp r.0 name ≡ Less
below_more ps m q name rise at less i r h g =
    elim (le_cases i m (omega arith)) [
      | inl a ↦ nat_list_cmp_total.trans r.0 q.0 name (rise i m r q a g at) less
      | inr e ↦ let g' : slice_get ps m ≡ Some r = rw e at g in let z : q ≡ r =
          same_row (slice_get ps m) q r at g' in subst (λ (x : List ℕ × ℕ). slice_cmp nat_cmp x.0 name ≡ Less) z less
    ]

-- Rows from one whose name is greater on have greater names.
pub above_more : (ps : List (List ℕ × ℕ)) (m : ℕ) (q : List ℕ × ℕ) (name : List ℕ) → Rising ps →
    slice_get ps m ≡ Some q → slice_cmp nat_cmp q.0 name ≡ Greater → (i : ℕ) (r : List ℕ × ℕ) → m ≤ i →
    slice_get ps i ≡ Some r → slice_cmp nat_cmp r.0 name ≡ Greater
above_more ps m q name rise at more i r h g =
    elim (le_cases m i h) [
      | inl a ↦ back r.0 name (nat_list_cmp_total.trans name q.0 r.0 (turned q.0 name more) (rise m i q r a at g))
      | inr e ↦ let g' : slice_get ps m ≡ Some r = rw (← e) at g in let z : q ≡ r =
          same_row (slice_get ps m) q r at g' in subst (λ (x : List ℕ × ℕ). slice_cmp nat_cmp x.0 name ≡ Greater) z more
    ]

no_less : (a : List ℕ) → slice_cmp nat_cmp a a ≡ Less → ⊥
no_less a h = let e = nat_list_cmp_total.antisymm a a in let z : Less ≡ Greater = sym h ∙ e
    ∙ ap ordering_reverse h in cc

le_or : (n i : ℕ) → (i < n) ⊎ (n ≤ i)
le_or zero i = inr (omega arith)
le_or (suc n) zero = inl (omega arith)
le_or (suc n) (suc i) = elim (le_or n i) [ inl a ↦ inl (omega arith) | inr a ↦ inr (omega arith) ]

below_row : (ps : List (List ℕ × ℕ)) (n m : ℕ) (p q : List ℕ × ℕ) → m + 1 ≡ n → RisingTo ps n →
    slice_get ps m ≡ Some p → slice_cmp nat_cmp p.0 q.0 ≡ Less → (i : ℕ) (r : List ℕ × ℕ) → i < n →
    slice_get ps i ≡ Some r → IsLess r.0 q.0
below_row ps n m p q e rise hp less i r h g =
    elim (le_cases i m (omega arith)) [
      | inl a ↦ nat_list_cmp_total.trans r.0 p.0 q.0 (rise i m r p a (omega arith) g hp) less
      | inr c ↦ let g' : slice_get ps m ≡ Some r = rw c at g in let z : p ≡ r =
          same_row (slice_get ps m) p r hp g' in subst (λ (x : List ℕ × ℕ). IsLess x.0 q.0) z less
    ]

-- Where the rows before a place are less and all others greater, none has the name.
pub none_left : (ps : List (List ℕ × ℕ)) (n : ℕ) (name : List ℕ) →
    ((i : ℕ) (r : List ℕ × ℕ) → i < n → slice_get ps i ≡ Some r → slice_cmp nat_cmp r.0 name ≡ Less) →
    ((i : ℕ) (r : List ℕ × ℕ) → n ≤ i → slice_get ps i ≡ Some r → slice_cmp nat_cmp r.0 name ≡ Greater) →
    HasNone ps name
none_left ps n name below above i r g e =
    elim (le_or n i) [
      | inl a ↦ no_less name (let h : slice_cmp nat_cmp r.0 name ≡ Less = below i r a g in rw e at h)
      | inr a ↦ no_less name (let h : slice_cmp nat_cmp name r.0 ≡ Less = turned r.0 name (above i r a g) in rw e at h)
    ]

-- Names that compare as equal are one.
pub equal_is : (a b : List ℕ) → slice_cmp nat_cmp a b ≡ Equal → a ≡ b
equal_is a b h = exact_bytes a b h

-- one row more that rises
pub rising_more : (ps : List (List ℕ × ℕ)) (n m : ℕ) (p q : List ℕ × ℕ) → m + 1 ≡ n → RisingTo ps n →
    slice_get ps m ≡ Some p → slice_get ps n ≡ Some q → slice_cmp nat_cmp p.0 q.0 ≡ Less → RisingTo ps (n + 1)
rising_more ps n m p q e rise hp hq less i j r s a b g k =
    elim (le_cases j n (omega arith)) [
      | inl c ↦ rise i j r s a c g k
      | inr c ↦
          let k' : slice_get ps n ≡ Some s = rw c at k in
          let z : q ≡ s = same_row (slice_get ps n) q s hq k' in
          let w : IsLess r.0 q.0 = below_row ps n m p q e rise hp less i r (omega arith) g in
          subst (λ (x : List ℕ × ℕ). IsLess r.0 x.0) z w
    ]
