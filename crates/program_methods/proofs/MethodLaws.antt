-- Methods in the order of their names, and the first of a name.
use Rattle.std.proofs.Common.{◌≡◌, ℕ, zero, suc, ◌<◌, ◌+◌, Bool, true, false, not, ◌&&◌, cond, List, [], ◌∷◌, length}
use Rattle.std.proofs.Common.{◌≤◌, get_or, drop, filter, find, Option, Some, None, refl, sym, ap, ◌∙◌, subst, arith}
use Rattle.std.proofs.Common.{bytes_eq}
use Rattle.std.specs.Cmp.{IsStrictWeakOrder}
use Rattle.std.specs.Cmp.Lexicographic.{slice_cmp, bytes_decides}
use Rattle.std.specs.List.{AllWithin}
use Rattle.std.specs.List.Sorted.{IsSorted, IsStable, IsPartitionedBy, ties}
use Rattle.std.specs.Ordering.{nat_cmp, ordering_reverse, is_gt, is_lt}
use Rattle.std.specs.declared.cmp.Ordering.{Ordering}
use Rattle.std.specs.declared.cmp.Ordering.TheVariants.{Less, Equal, Greater}
use Rattle.std.proofs.lemmas.Bool.{false≢true}
use Rattle.std.proofs.lemmas.Cmp.{nat_list_cmp_total, tied_itself}
use Rattle.std.proofs.lemmas.List.{drop_all, drop_more, get_or-drop, length-drop, get_or_default}
use Rattle.std.proofs.lemmas.List.Sorted.{ranks_by, sorted_far}
use Rattle.std.proofs.lemmas.Map.Lookups.{exact_bytes}
use Rattle.std.proofs.lemmas.Option.{none-some, same_Some}
use Rattle.program_places.specs.Paths.{Name}
use Rattle.program_lookups.specs.declared.code.MethodCode.{MethodCode}
use Rattle.program_methods.specs.Methods.{name_order, comes_before, is_named, first_named}

-- ---- names in order

abbrev order : Name → Name → Ordering
order = slice_cmp nat_cmp

-- methods are ordered by their names
pub name_ranks : IsStrictWeakOrder (λ (m : MethodCode) (n : MethodCode). is_lt (name_order m n))
name_ranks = ranks_by nat_list_cmp_total (λ (m : MethodCode). m.name)

not_greater : (a b : Name) → is_lt (order b a) ≡ false → is_gt (order a b) ≡ false
not_greater a b h =
    elim (order b a) as (λ o. order a b ≡ ordering_reverse o → is_lt o ≡ false → is_gt (order a b) ≡ false) [
      | Less ↦ λ e g. absurd (false≢true (sym g))
      | Equal ↦ λ e g. ap is_gt e
      | Greater ↦ λ e g. ap is_gt e
    ] (nat_list_cmp_total.antisymm a b) h

upto_before : (a b c : Name) → is_gt (order a b) ≡ false → order b c ≡ Less → order a c ≡ Less
upto_before a b c h k =
    elim (order a b) as (λ o. order a b ≡ o → is_gt o ≡ false → order a c ≡ Less) [
      | Less ↦ λ e g. nat_list_cmp_total.trans a b c e k
      | Equal ↦ λ e g. subst (λ (p : Name). order p c ≡ Less) (sym (exact_bytes a b e)) k
      | Greater ↦ λ e g. cc
    ] refl h

before_upto : (a b c : Name) → order a b ≡ Less → is_gt (order b c) ≡ false → order a c ≡ Less
before_upto a b c h k =
    elim (order b c) as (λ o. order b c ≡ o → is_gt o ≡ false → order a c ≡ Less) [
      | Less ↦ λ e g. nat_list_cmp_total.trans a b c h e
      | Equal ↦ λ e g. subst (λ (p : Name). order a p ≡ Less) (exact_bytes b c e) h
      | Greater ↦ λ e g. cc
    ] refl k

lt_is : (o : Ordering) → is_lt o ≡ true → o ≡ Less
lt_is Less h = refl
lt_is Equal h = cc
lt_is Greater h = cc

-- of sorted methods no later one comes before an earlier one
far : (ms : List MethodCode) → IsSorted name_order ms → (i j : ℕ) (d : MethodCode) → i ≤ j → j < length ms →
    is_lt (name_order (get_or ms j d) (get_or ms i d)) ≡ false
far ms h = sorted_far (λ m n. is_lt (name_order m n)) name_ranks ms h

-- sorted methods are parted by whether their names come before one
pub parted : (name : Name) (ms : List MethodCode) → IsSorted name_order ms → IsPartitionedBy (comes_before name) ms
parted name ms h i j d le lt before =
    ap is_lt (upto_before (get_or ms i d).name (get_or ms j d).name name
    (not_greater (get_or ms i d).name (get_or ms j d).name (far ms h i j d le lt))
    (lt_is (order (get_or ms j d).name name) before))

-- ---- names that are the same

same_bytes : (a b : Name) (o : Ordering) → order a b ≡ o → is_lt o ≡ false → is_gt o ≡ false → bytes_eq a b ≡ true
same_bytes a b Less e h g = absurd (false≢true (sym h))
same_bytes a b Equal e h g = (bytes_decides a b).1 (exact_bytes a b e)
same_bytes a b Greater e h g = absurd (false≢true (sym g))

other_bytes : (a b : Name) (v : Bool) → bytes_eq a b ≡ v → (order a b ≡ Equal → ⊥) → v ≡ false
other_bytes a b false e h = refl
other_bytes a b true e h =
    absurd (h (ap (order a) (sym ((bytes_decides a b).0 e)) ∙ tied_itself nat_list_cmp_total a))

-- a name that comes before another isn't that one
before_named : (a b : Name) → order a b ≡ Less → bytes_eq a b ≡ false
before_named a b e = other_bytes a b (bytes_eq a b) refl (λ q. let z : Less ≡ Equal = sym e ∙ q in cc)

after_named : (a b : Name) → order b a ≡ Less → bytes_eq a b ≡ false
after_named a b e =
    let back : order a b ≡ Greater = nat_list_cmp_total.antisymm a b ∙ ap ordering_reverse e in
    other_bytes a b (bytes_eq a b) refl (λ q. let z : Greater ≡ Equal = sym back ∙ q in cc)

-- ---- the first of a name

-- where all names come before one, none is that
skipped : (name : Name) (ms : List MethodCode) (i : ℕ) → AllWithin (λ m. comes_before name m ≡ true) ms 0 i →
    first_named name ms ≡ first_named name (drop i ms)
skipped name ms zero h = refl
skipped name [] (suc i) h = refl
skipped name (m ∷ ms) (suc i) h =
    ap (λ v. cond v (Some m) (first_named name ms))
    (before_named m.name name (lt_is (order m.name name) (h 0 m (omega arith) (omega arith))))
    ∙ skipped name ms i (λ k d a b. h (suc k) d (omega arith) (omega arith))

-- where all names come before one, none is that
pub first_past : (name : Name) (ms : List MethodCode) (place : ℕ) →
    AllWithin (λ m. comes_before name m ≡ true) ms 0 place → place ≡ length ms → first_named name ms ≡ None
first_past name ms place front e = skipped name ms place front
    ∙ ap (first_named name) (drop_all place ms (omega (arith, e)))

none_behind : (name : Name) (ms : List MethodCode) →
    ((k : ℕ) (d : MethodCode) → k < length ms → order name (get_or ms k d).name ≡ Less) → first_named name ms ≡ None
none_behind name [] h = refl
none_behind name (m ∷ ms) h =
    ap (λ v. cond v (Some m) (first_named name ms)) (after_named m.name name (h 0 m (omega arith)))
    ∙ none_behind name ms (λ k d lt. h (suc k) d (omega arith))

module _ (name : Name) (ms : List MethodCode) (place : ℕ) (m : MethodCode) (lt : place < length ms)
    (is : m ≡ get_or ms place m) where
  rest_at : drop place ms ≡ m ∷ drop (place + 1) ms
  rest_at = drop_more ms place m lt ∙ ap (λ t. t ∷ drop (place + 1) ms) (sym is)

  first_step : AllWithin (λ t. comes_before name t ≡ true) ms 0 place →
      first_named name ms ≡ cond (is_named name m) (Some m) (first_named name (drop (place + 1) ms))
  first_step front = skipped name ms place front ∙ ap (first_named name) rest_at

  -- where all before a place come before a name and a method of the name stands there, it is the first
  pub first_found : AllWithin (λ t. comes_before name t ≡ true) ms 0 place → is_named name m ≡ true →
      first_named name ms ≡ Some m
  first_found front e = first_step front
      ∙ ap (λ v. cond v (Some m) (first_named name (drop (place + 1) ms))) e

  not_before : AllWithin (λ t. comes_before name t ≡ false) ms place (length ms) → comes_before name m ≡ false
  not_before back = ap (comes_before name) is ∙ back place m (omega arith) lt

  -- what stands there and isn't of the name comes behind it
  behind_name : AllWithin (λ t. comes_before name t ≡ false) ms place (length ms) → is_named name m ≡ false →
      order name m.name ≡ Less
  behind_name back other =
      elim (order m.name name) as (λ o. order m.name name ≡ o → is_lt o ≡ false → order name m.name ≡ Less) [
        | Less ↦ λ e h. absurd (false≢true (sym h))
        | Equal ↦ λ e h. absurd (false≢true (sym other ∙ (bytes_decides m.name name).1 (exact_bytes m.name name e)))
        | Greater ↦ λ e h. nat_list_cmp_total.antisymm name m.name ∙ ap ordering_reverse e
      ] refl (not_before back)

  later_behind : IsSorted name_order ms → order name m.name ≡ Less → (k : ℕ) (d : MethodCode) →
      k < length (drop (place + 1) ms) → order name (get_or (drop (place + 1) ms) k d).name ≡ Less
  later_behind sorted e k d h =
      let at : get_or (drop (place + 1) ms) k d ≡ get_or ms (place + 1 + k) d = get_or-drop (place + 1) ms k d in
      let within : place + 1 + k < length ms = omega (arith, length-drop (place + 1) ms, h) in
      let up : is_lt (name_order (get_or ms (place + 1 + k) d) (get_or ms place d)) ≡ false =
      far ms sorted place (place + 1 + k) d (omega arith) within in
      let here : get_or ms place d ≡ m = get_or_default ms place d m lt ∙ sym is in
      subst (λ (t : MethodCode). order name t.name ≡ Less) (sym at)
      (before_upto name m.name (get_or ms (place + 1 + k) d).name e
      (not_greater m.name (get_or ms (place + 1 + k) d).name
      (subst (λ (t : MethodCode). is_lt (name_order (get_or ms (place + 1 + k) d) t) ≡ false) here up)))

  -- where a name is parted at a place and what stands there is of another name, no method is of the name
  pub first_other : IsSorted name_order ms → AllWithin (λ t. comes_before name t ≡ true) ms 0 place →
      AllWithin (λ t. comes_before name t ≡ false) ms place (length ms) → is_named name m ≡ false →
      first_named name ms ≡ None
  first_other sorted front back other =
      first_step front
      ∙ ap (λ v. cond v (Some m) (first_named name (drop (place + 1) ms))) other
      ∙ none_behind name (drop (place + 1) ms) (later_behind sorted (behind_name back other))

-- ---- what sorting keeps

abbrev head_of : {A : Type 0} → List A → Option A
head_of [] = None
head_of (x ∷ xs) = Some x

module _ {A : Type 0} where
  find_filter : (p : A → Bool) (xs : List A) → find p xs ≡ head_of (filter p xs)
  find_filter p [] = refl
  find_filter p (x ∷ xs) = at (p x) (find_filter p xs) where
    at : (b : Bool) → find p xs ≡ head_of (filter p xs) →
        cond b (Some x) (find p xs) ≡ head_of (cond b (x ∷ filter p xs) (filter p xs))
    at true ih = refl
    at false ih = ih

  filter_same : (p q : A → Bool) → ((x : A) → p x ≡ q x) → (xs : List A) → filter p xs ≡ filter q xs
  filter_same p q h [] = refl
  filter_same p q h (x ∷ xs) = ap (λ b. cond b (x ∷ filter p xs) (filter p xs)) (h x)
      ∙ ap (λ ys. cond (q x) (x ∷ ys) ys) (filter_same p q h xs)

  find_passes : (p : A → Bool) (x : A) (xs : List A) → find p xs ≡ Some x → p x ≡ true
  find_passes p x [] e = absurd (none-some x e)
  find_passes p x (y ∷ xs) e = at (p y) refl (find_passes p x xs) e where
    at : (b : Bool) → p y ≡ b → (find p xs ≡ Some x → p x ≡ true) → cond b (Some y) (find p xs) ≡ Some x → p x ≡ true
    at true q ih h = ap p (sym (same_Some y x h)) ∙ q
    at false q ih h = ih h

tied_by : (a b : Name) (o : Ordering) → order a b ≡ o → not (is_lt o) && not (is_lt (order b a)) ≡ bytes_eq b a
tied_by a b Less e = sym (after_named b a e)
tied_by a b Equal e =
    let same : a ≡ b = exact_bytes a b e in
    let back : order b a ≡ Equal = nat_list_cmp_total.antisymm b a ∙ ap ordering_reverse e in
    ap (λ o. not (is_lt o)) back ∙ sym ((bytes_decides b a).1 (sym same))
tied_by a b Greater e =
    let back : order b a ≡ Less = nat_list_cmp_total.antisymm b a ∙ ap ordering_reverse e in
    ap (λ o. not (is_lt o)) back ∙ sym (before_named b a back)

-- methods tie where they have one name
tied_name : (m n : MethodCode) → ties (λ x y. is_lt (name_order x y)) m n ≡ is_named m.name n
tied_name m n = tied_by m.name n.name (order m.name n.name) refl

-- methods of a method's name keep their order
named_kept : (xs ys : List MethodCode) → IsStable name_order xs ys → (name : Name) (m : MethodCode) →
    is_named name m ≡ true → first_named name ys ≡ first_named name xs
named_kept xs ys stable name m e =
    let same : m.name ≡ name = (bytes_decides m.name name).0 e in
    let each : (zs : List MethodCode) → filter (ties (λ x y. is_lt (name_order x y)) m) zs
    ≡ filter (is_named name) zs =
    λ zs. filter_same (ties (λ x y. is_lt (name_order x y)) m) (is_named name)
    (λ n. tied_name m n ∙ ap (λ x. is_named x n) same) zs in
    find_filter (is_named name) ys
    ∙ ap head_of (sym (each ys) ∙ stable m ∙ each xs)
    ∙ sym (find_filter (is_named name) xs)

-- sorting keeps the first of each name
pub first_kept : (xs ys : List MethodCode) → IsStable name_order xs ys → (name : Name) →
    first_named name ys ≡ first_named name xs
first_kept xs ys stable name = by (first_named name ys) (first_named name xs) refl refl where
  by : (o p : Option MethodCode) → first_named name ys ≡ o → first_named name xs ≡ p →
      first_named name ys ≡ first_named name xs
  by None None e f = e ∙ sym f
  by (Some m) p e f = named_kept xs ys stable name m (find_passes (is_named name) m ys e)
  by None (Some m) e f = named_kept xs ys stable name m (find_passes (is_named name) m xs f)
