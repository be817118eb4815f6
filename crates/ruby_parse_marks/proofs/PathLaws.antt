-- Different numbers have different paths.
use Rattle.std.proofs.Common.{◌≡◌, ℕ, zero, suc, ◌+◌, ◌≤◌, ◌<◌, Bool, true, false, ◌&&◌, ◌||◌, ◌==◌, List, [], ◌∷◌}
use Rattle.std.proofs.Common.{◌++◌, length, refl, sym, ap, ◌∙◌, subst, arith, Some, None, inl, inr, ◌⊎◌, cond}
use Rattle.std.specs.Prelude.{bytes_eq}
use Rattle.std.specs.List.{list_any}
use Rattle.std.specs.Map.{lookup}
use Rattle.std.specs.Cmp.Lexicographic.{nat_list_eq_equiv}
use Rattle.std.proofs.lemmas.Bool.Decides.{nat_tests}
use Rattle.std.proofs.lemmas.Bool.{cond-true, cond-false, eqb-true, or_parts, and_parts, eq-eqb}
use Rattle.std.proofs.lemmas.Slice.Eq.{bytes_eq-Decides}
use Rattle.std.proofs.lemmas.List.{length-append}
use Rattle.std.proofs.lemmas.List.Folds.{list_any-append}
use Rattle.std.proofs.Math.Bool.{and-false, and-true, and_assoc}
use Rattle.ruby_grammar.specs.Marks.{same_path}
use Rattle.ruby_grammar.specs.Definitions.{at_top}
use Rattle.ruby_parse_marks.specs.declared.paths.Inner.{Inner}
use Rattle.ruby_parse_marks.specs.Paths.{latest_first, same_inner, is_inner, path_at, AreNumbered, Numbers, Grown}
use Rattle.ruby_parse_marks.specs.Paths.{IsNumber}

-- ---- lists, the latest first
-- one more comes first
pub latest_more : {A : Type 0} (xs : List A) (x : A) → latest_first (xs ++ x ∷ []) ≡ x ∷ latest_first xs
latest_more [] x = refl
latest_more (y ∷ ys) x = ap (λ l. l ++ y ∷ []) (latest_more ys x)

-- a test finds the same in either order
pub any_latest : {A : Type 0} (p : A → Bool) (xs : List A) → list_any p (latest_first xs) ≡ list_any p xs
any_latest p [] = refl
any_latest p (x ∷ xs) = list_any-append p (latest_first xs) (x ∷ [])
    ∙ ap (λ b. b || (p x || false)) (any_latest p xs) ∙ turned (list_any p xs) (p x)
  where
    turned : (a b : Bool) → (a || (b || false)) ≡ (b || a)
    turned true true = refl
    turned true false = refl
    turned false true = refl
    turned false false = refl

-- they are as many
pub length_latest : {A : Type 0} (xs : List A) → length (latest_first xs) ≡ length xs
length_latest [] = refl
length_latest (x ∷ xs) = let a = length-append (latest_first xs) (x ∷ []) in
    let b = length_latest xs in omega (arith, a, b)

-- it is one of these
abbrev pub IsOne : {A : Type 0} → A → List A → Type 0
IsOne a [] = ⊥
IsOne a (x ∷ xs) = (a ≡ x) ⊎ IsOne a xs

one_before : {A : Type 0} (a : A) (xs ys : List A) → IsOne a xs → IsOne a (xs ++ ys)
one_before a [] ys h = absurd h
one_before a (x ∷ xs) ys (inl e) = inl e
one_before a (x ∷ xs) ys (inr h) = inr (one_before a xs ys h)

one_last : {A : Type 0} (a : A) (xs : List A) → IsOne a (xs ++ a ∷ [])
one_last a [] = inl refl
one_last a (x ∷ xs) = inr (one_last a xs)

one_latest : {A : Type 0} (a : A) (xs : List A) → IsOne a xs → IsOne a (latest_first xs)
one_latest a [] h = absurd h
one_latest a (x ∷ xs) (inl e) = subst (λ y. IsOne a (latest_first xs ++ y ∷ [])) e (one_last a (latest_first xs))
one_latest a (x ∷ xs) (inr h) = one_before a (latest_first xs) (x ∷ []) (one_latest a xs h)

-- ---- names in paths

less_differs : (m n : ℕ) → m < n → (m == n) ≡ false
less_differs m n h = grind (arith, nat_tests, h)

more_differs : (m n : ℕ) → n < m → (m == n) ≡ false
more_differs m n h = grind (arith, nat_tests, h)

inner_self : (k : Inner) → same_inner k k ≡ true
inner_self k = ap (λ b. b && bytes_eq k.name.items k.name.items) (eq-eqb k.outer k.outer refl)
    ∙ nat_list_eq_equiv.refl k.name.items

numbers_turned : (m n : ℕ) → (m == n) ≡ (n == m)
numbers_turned m n = grind (arith, nat_tests)

inner_turned : (k l : Inner) → same_inner k l ≡ same_inner l k
inner_turned k l = ap (λ b. b && bytes_eq k.name.items l.name.items) (numbers_turned k.outer l.outer)
    ∙ ap (λ b. (l.outer == k.outer) && b) (nat_list_eq_equiv.symm k.name.items l.name.items)

none_such : (k : Inner) (es : List (Inner × ℕ)) (e : Inner × ℕ) → list_any (is_inner k) es ≡ false → IsOne e es →
    same_inner k e.0 ≡ false
none_such k [] e h o = absurd o
none_such k (x ∷ es) e h (inl s) = subst (λ y. same_inner k y.0 ≡ false) (sym s) (or_parts (is_inner k x) _ h).0
none_such k (x ∷ es) e h (inr o) = none_such k es e (or_parts (is_inner k x) _ h).1 o

-- ---- paths of numbers
-- an older path stays
pub path_stays : (e : Inner × ℕ) (older : List (Inner × ℕ)) (n : ℕ) → e.1 ≡ suc (length older) → n ≤ length older →
    path_at (e ∷ older) n ≡ path_at older n
path_stays e older n s h = cond-false _ _ _ (less_differs n e.1 (omega (arith, s, h)))

-- What is known of a name that has a number.
record Placed (rs : List (Inner × ℕ)) (e : Inner × ℕ) : Type 0 where
  within : e.1 ≤ length rs
  behind : e.0.outer < e.1
  path : path_at rs e.1 ≡ path_at rs e.0.outer ++ e.0.name.items ∷ []

placed : (rs : List (Inner × ℕ)) (e : Inner × ℕ) → AreNumbered rs → IsOne e rs → Placed rs e
placed [] e h o = absurd o
placed (x ∷ older) e h (inl s) = subst (λ y. Placed (x ∷ older) y) (sym s) (record {
  within = omega (arith, h.0);
  behind = omega (arith, h.0, h.1);
  path = cond-true _ _ _ (eq-eqb x.1 x.1 refl)
      ∙ ap (λ l. l ++ x.0.name.items ∷ []) (sym (path_stays x older x.0.outer h.0 h.1));
})
placed (x ∷ older) e h (inr o) =
    let p = placed older e h.3 o in
    record {
      within = omega (arith, p.within);
      behind = p.behind;
      path = path_stays x older e.1 h.0 p.within ∙ p.path
          ∙ ap (λ l. l ++ e.0.name.items ∷ []) (sym (path_stays x older e.0.outer h.0
          (omega (arith, p.within, p.behind))));
    }

-- a number is the top's, or that of a name
data Met (rs : List (Inner × ℕ)) (n : ℕ) : Type 0 where
  at_top_met : n ≡ 0 → path_at rs n ≡ [] → Met rs n
  at_name : (e : Inner × ℕ) → IsOne e rs → e.1 ≡ n → Met rs n

met_more : (x : Inner × ℕ) (older : List (Inner × ℕ)) (n : ℕ) → x.1 ≡ suc (length older) → n ≤ length older →
    Met older n → Met (x ∷ older) n
met_more x older n h s (at_top_met z p) = at_top_met z (path_stays x older n h s ∙ p)
met_more x older n h s (at_name e o q) = at_name e (inr o) q

met : (rs : List (Inner × ℕ)) (n : ℕ) → AreNumbered rs → n ≤ length rs → Met rs n
met [] n h l = at_top_met (omega (arith, l)) refl
met (x ∷ older) n h l = by (n == x.1) refl (λ s. met older n h.3 s)
  where
    by : (b : Bool) → (n == x.1) ≡ b → (n ≤ length older → Met older n) → Met (x ∷ older) n
    by true e k = at_name x (inl refl) (sym (eqb-true n x.1 e))
    by false e k = let s : n ≤ length older = grind (arith, nat_tests, h.0, l, e) in met_more x older n h.0 s (k s)

-- two names have one number where they are one
one_number : (rs : List (Inner × ℕ)) (e f : Inner × ℕ) → AreNumbered rs → IsOne e rs → IsOne f rs →
    same_inner e.0 f.0 ≡ (e.1 == f.1)
one_number [] e f h o p = absurd o
one_number (x ∷ older) e f h (inl s) (inl t) =
    subst (λ y. same_inner y.0 f.0 ≡ (y.1 == f.1)) (sym s)
    (subst (λ y. same_inner x.0 y.0 ≡ (x.1 == y.1)) (sym t) (inner_self x.0 ∙ sym (eq-eqb x.1 x.1 refl)))
one_number (x ∷ older) e f h (inl s) (inr p) =
    let q = placed older f h.3 p in
    subst (λ y. same_inner y.0 f.0 ≡ (y.1 == f.1)) (sym s)
    (none_such x.0 older f h.2 p ∙ sym (more_differs x.1 f.1 (omega (arith, h.0, q.within))))
one_number (x ∷ older) e f h (inr o) (inl t) =
    let q = placed older e h.3 o in
    subst (λ y. same_inner e.0 y.0 ≡ (e.1 == y.1)) (sym t)
    (inner_turned e.0 x.0 ∙ none_such x.0 older e h.2 o
    ∙ sym (less_differs e.1 x.1 (omega (arith, h.0, q.within))))
one_number (x ∷ older) e f h (inr o) (inr p) = one_number older e f h.3 o p

same_ends : (p q : List (List ℕ)) (x y : List ℕ) → same_path (p ++ x ∷ []) (q ++ y ∷ [])
    ≡ (same_path p q && bytes_eq x y)
same_ends [] [] x y = and-true (bytes_eq x y)
same_ends [] (m ∷ []) x y = and-false (bytes_eq x m)
same_ends [] (m ∷ n ∷ q) x y = and-false (bytes_eq x m)
same_ends (m ∷ []) [] x y = and-false (bytes_eq m y)
same_ends (m ∷ n ∷ p) [] x y = and-false (bytes_eq m y)
same_ends (m ∷ p) (n ∷ q) x y = ap (λ b. bytes_eq m n && b) (same_ends p q x y)
    ∙ sym (and_assoc (bytes_eq m n) (same_path p q) (bytes_eq x y))

end_no_top : (p : List (List ℕ)) (x : List ℕ) → same_path [] (p ++ x ∷ []) ≡ false
end_no_top [] x = refl
end_no_top (m ∷ p) x = refl

no_top_end : (p : List (List ℕ)) (x : List ℕ) → same_path (p ++ x ∷ []) [] ≡ false
no_top_end [] x = refl
no_top_end (m ∷ p) x = refl

module _ (rs : List (Inner × ℕ)) (h : AreNumbered rs) where
  abbrev AreApart : ℕ → ℕ → Type 0
  AreApart m n = same_path (path_at rs m) (path_at rs n) ≡ (m == n)

  by_names : (m n : ℕ) → ((a b : ℕ) → a < m → b ≤ length rs → AreApart a b) → Met rs m → Met rs n → AreApart m n
  by_names m n before (at_top_met z p) (at_top_met z' p') =
      ap (λ q. same_path q (path_at rs n)) p ∙ ap (λ q. same_path [] q) p' ∙ sym (rw (z, z') (eq-eqb 0 0 refl))
  by_names m n before (at_top_met z p) (at_name e o s) =
      let q = placed rs e h o in
      ap (λ v. same_path v (path_at rs n)) p ∙ ap (λ v. same_path [] (path_at rs v)) (sym s)
      ∙ ap (λ v. same_path [] v) q.path ∙ end_no_top (path_at rs e.0.outer) e.0.name.items
      ∙ sym (less_differs m n (omega (arith, z, s, q.behind)))
  by_names m n before (at_name e o s) (at_top_met z p) =
      let q = placed rs e h o in
      ap (λ v. same_path (path_at rs m) v) p ∙ ap (λ v. same_path (path_at rs v) []) (sym s)
      ∙ ap (λ v. same_path v []) q.path ∙ no_top_end (path_at rs e.0.outer) e.0.name.items
      ∙ sym (more_differs m n (omega (arith, z, s, q.behind)))
  by_names m n before (at_name e o s) (at_name g p t) =
      let q = placed rs e h o in
      let r = placed rs g h p in
      ap (λ v. same_path (path_at rs v) (path_at rs n)) (sym s)
      ∙ ap (λ v. same_path (path_at rs e.1) (path_at rs v)) (sym t)
      ∙ ap (λ v. same_path v (path_at rs g.1)) q.path
      ∙ ap (λ v. same_path (path_at rs e.0.outer ++ e.0.name.items ∷ []) v) r.path
      ∙ same_ends (path_at rs e.0.outer) (path_at rs g.0.outer) e.0.name.items g.0.name.items
      ∙ ap (λ b. b && bytes_eq e.0.name.items g.0.name.items)
      (before e.0.outer g.0.outer (omega (arith, s, q.behind)) (omega (arith, r.within, r.behind)))
      ∙ one_number rs e g h o p ∙ ap (λ v. v == g.1) s ∙ ap (λ v. m == v) t

  distinct : (fuel m n : ℕ) → m ≤ fuel → m ≤ length rs → n ≤ length rs → AreApart m n
  distinct zero m n f k l = by_names m n (λ a b v w. absurd (omega (arith, v, f))) (met rs m h k) (met rs n h l)
  distinct (suc fuel) m n f k l = by_names m n
      (λ a b v w. distinct fuel a b (omega (arith, v, f)) (omega (arith, v, k)) w) (met rs m h k) (met rs n h l)

-- two numbers are one where their paths are
pub one_path : (rs : List (Inner × ℕ)) (m n : ℕ) → AreNumbered rs → m ≤ length rs → n ≤ length rs →
    same_path (path_at rs m) (path_at rs n) ≡ (m == n)
one_path rs m n h k l = distinct rs h m m n (omega arith) k l

-- ---- a name more
some_is : (a b : ℕ) → Some a ≡ Some b → a ≡ b
some_is a b e = cc

abbrev Found : Inner → List (Inner × ℕ) → ℕ → Type 0
Found k es n = (l : Inner) × IsOne (l, n) es × (same_inner k l ≡ true)

found_one : (k : Inner) (es : List (Inner × ℕ)) (n : ℕ) → lookup (same_inner k) es ≡ Some n → Found k es n
found_one k [] n h = cc
found_one k (e ∷ es) n h = by (same_inner k e.0) refl (λ r. found_one k es n r)
  where
    by : (b : Bool) → same_inner k e.0 ≡ b → (lookup (same_inner k) es ≡ Some n → Found k es n) → Found k (e ∷ es) n
    by true q f = (
      e.0,
      inl (ap (λ v. (e.0, v)) (sym (some_is e.1 n
          (subst (λ v. cond v (Some e.1) (lookup (same_inner k) es) ≡ Some n) q h)))),
      q,
    )
    by false q f = let r = f (subst (λ v. cond v (Some e.1) (lookup (same_inner k) es) ≡ Some n) q h) in
        (r.0, inr r.1, r.2)

none_known : (k : Inner) (es : List (Inner × ℕ)) → lookup (same_inner k) es ≡ None → list_any (is_inner k) es ≡ false
none_known k [] h = refl
none_known k (e ∷ es) h = by (same_inner k e.0) refl (λ r. none_known k es r)
  where
    never : Some e.1 ≡ None → ⊥
    never e = cc

    by : (b : Bool) → same_inner k e.0 ≡ b →
        (lookup (same_inner k) es ≡ None → list_any (is_inner k) es ≡ false) →
        (same_inner k e.0 || list_any (is_inner k) es) ≡ false
    by true q f = absurd (never (subst (λ v. cond v (Some e.1) (lookup (same_inner k) es) ≡ None) q h))
    by false q f = rw q (f (subst (λ v. cond v (Some e.1) (lookup (same_inner k) es) ≡ None) q h))

-- the number that a name has, or gets as the next one, is the number of its path, and older numbers keep theirs
pub is_number : (es fs : List (Inner × ℕ)) (outer n : ℕ) (name : List ℕ) → AreNumbered (latest_first es) →
    outer ≤ length es → Numbers es outer name n fs → IsNumber es outer (name ∷ []) n fs
is_number es fs outer n name h l (k, a, b, inl (c, d)) =
    let found = found_one k es n c in
    let o = one_latest (found.0, n) es found.1 in
    let p = placed (latest_first es) (found.0, n) h o in
    let same : (k.outer ≡ found.0.outer) × (k.name.items ≡ found.0.name.items) = inner_is k found.0 found.2 in
    subst (λ v. IsNumber es outer (name ∷ []) n v) (sym d) (record {
      grown = record { numbered = h; grows = omega arith; stays = λ m s. refl };
      within = subst (λ v. n ≤ v) (length_latest es) p.within;
      path = p.path ∙ ap (λ v. path_at (latest_first es) v ++ found.0.name.items ∷ []) (sym same.0 ∙ a)
          ∙ ap (λ v. path_at (latest_first es) outer ++ v ∷ []) (sym same.1 ∙ b);
    })
  where
    inner_is : (k l : Inner) → same_inner k l ≡ true → (k.outer ≡ l.outer) × (k.name.items ≡ l.name.items)
    inner_is k l h =
        let p = and_parts (k.outer == l.outer) (bytes_eq k.name.items l.name.items) h in
        (eqb-true k.outer l.outer p.0, (bytes_eq-Decides k.name.items l.name.items).0 p.1)
is_number es fs outer n name h l (k, a, b, inr (c, d, e)) =
    let size = length_latest es in
    let more : latest_first fs ≡ (k, n) ∷ latest_first es = ap (λ v. latest_first v) e ∙ latest_more es (k, n) in
    let step : n ≡ suc (length (latest_first es)) = d ∙ ap (λ v. suc v) (sym size) in
    let long : length fs ≡ length es + 1 = ap (λ v. length v) e ∙ length-append es ((k, n) ∷ []) in
    record {
      grown = record {
        numbered = subst (λ v. AreNumbered v) (sym more) (
          step,
          omega (arith, a, l, size),
          any_latest (is_inner k) es ∙ none_known k es c,
          h,
        );
        grows = omega (arith, long);
        stays = λ m s. ap (λ v. path_at v m) more
            ∙ path_stays (k, n) (latest_first es) m step (subst (λ v. m ≤ v) (sym size) s);
      };
      within = omega (arith, d, long);
      path = ap (λ v. path_at v n) more ∙ cond-true _ _ _ (eq-eqb n n refl)
          ∙ ap (λ v. path_at (latest_first es) v ++ k.name.items ∷ []) a
          ∙ ap (λ v. path_at (latest_first es) outer ++ v ∷ []) b;
    }

-- ---- the top
-- 0 is the top's number
pub top_path : (rs : List (Inner × ℕ)) → AreNumbered rs → path_at rs 0 ≡ []
top_path [] h = refl
top_path (e ∷ older) h = path_stays e older 0 h.0 (omega arith) ∙ top_path older h.3

-- no other number has the top's path
pub is_top_path : (rs : List (Inner × ℕ)) (n : ℕ) → AreNumbered rs → n ≤ length rs →
    at_top (path_at rs n) ≡ (n == 0)
is_top_path rs n h l = by (met rs n h l)
  where
    no_top : (p : List (List ℕ)) (x : List ℕ) → at_top (p ++ x ∷ []) ≡ false
    no_top [] x = refl
    no_top (m ∷ p) x = refl

    by : Met rs n → at_top (path_at rs n) ≡ (n == 0)
    by (at_top_met z p) = ap (λ v. at_top v) p ∙ sym (ap (λ v. v == 0) z ∙ eq-eqb 0 0 refl)
    by (at_name e o s) =
        let q = placed rs e h o in
        ap (λ v. at_top (path_at rs v)) (sym s) ∙ ap (λ v. at_top v) q.path
        ∙ no_top (path_at rs e.0.outer) e.0.name.items ∙ sym (more_differs n 0 (omega (arith, s, q.behind)))

-- ---- names one after another
-- where nothing more is numbered, the numbers keep their paths
pub grown_itself : (es : List (Inner × ℕ)) → AreNumbered (latest_first es) → Grown es es
grown_itself es h = record { numbered = h; grows = omega arith; stays = λ m s. refl }

-- what is numbered in two steps after one another keeps the paths of the older numbers
pub grown_more : (es fs gs : List (Inner × ℕ)) → Grown es fs → Grown fs gs → Grown es gs
grown_more es fs gs a b = record {
  numbered = b.numbered;
  grows = omega (arith, a.grows, b.grows);
  stays = λ m s. b.stays m (omega (arith, s, a.grows)) ∙ a.stays m s;
}
