-- The names of children: the last names of the paths that go on behind a front by one name.
use Rattle.std.proofs.Common.{◌≡◌, nat_lt, ℕ, zero, suc, ◌<◌, ◌≤◌, ◌+◌, true, false, cond, List, [], ◌∷◌, ◌++◌, length}
use Rattle.std.proofs.Common.{get_or, refl, sym, ap, ◌∙◌, subst, inl, inr, arith}
use Rattle.std.proofs.lemmas.Bool.{false≢true, ltb-true, ltb-false}
use Rattle.outside.specs.Order.{IsBefore}
use Rattle.tree_scan_sites.specs.Paths.{name_eq, IsBeforePath}
use Rattle.tree_scan_sites.specs.Rows.{last_behind, children_run}
use Rattle.tree_scan_sites.proofs.OrderLaws.{begins, name_eq-true, name_eq-refl, begins-append, between, behind_front}
use Rattle.tree_scan_sites.proofs.OrderLaws.{not_before_itself}
use Rattle.tree_scan_sites.proofs.MemberLaws.{In, in_front, in_behind, in_append, Each, of_each, Rises, rises_append}
use Rattle.tree_scan_sites.proofs.ReachLaws.{parent, Climbs}

-- ---- the names behind a front
-- of a path with one name more than the front, the last name stands behind the front
pub last_here : (n : ℕ) (p : List (List ℕ)) (last : List ℕ) → n + 1 ≡ length p → last ≡ get_or p n last →
    last_behind n p ≡ last ∷ []
last_here n [] last e is = absurd (omega (arith, e))
last_here zero (m ∷ []) last e is = ap (λ k. k ∷ []) (sym is)
last_here zero (m ∷ k ∷ p) last e is = absurd (omega (arith, e))
last_here (suc n) (m ∷ p) last e is = last_here n p last (omega (arith, e)) is

-- a path of another length gives no child name
pub last_elsewhere : (n : ℕ) (p : List (List ℕ)) → (n + 1 ≡ length p → ⊥) → last_behind n p ≡ []
last_elsewhere n [] ne = refl
last_elsewhere zero (m ∷ []) ne = absurd (ne (omega arith))
last_elsewhere zero (m ∷ k ∷ p) ne = refl
last_elsewhere (suc n) (m ∷ p) ne = last_elsewhere n p (λ e. ne (omega (arith, e)))

last_child : (c p : List (List ℕ)) (n : List ℕ) → begins c p ≡ true → In n (last_behind (length c) p) → p ≡ c ++ n ∷ []
last_child [] [] n b h = absurd h
last_child [] (m ∷ []) n b h = elim h [ inl e ↦ ap (λ k. k ∷ []) e | inr k ↦ absurd k ]
last_child [] (m ∷ k ∷ p) n b h = absurd h
last_child (x ∷ c) [] n b h = absurd h
last_child (x ∷ c) (y ∷ p) n b h =
    elim (name_eq x y) as (λ v. name_eq x y ≡ v → cond v (begins c p) false ≡ true → y ∷ p ≡ (x ∷ c) ++ n ∷ []) [
      | true ↦ λ e k. let same : x ≡ y = name_eq-true x y e in let rest : p ≡ c ++ n ∷ [] = last_child c p n k h in cc
      | false ↦ λ e k. absurd (false≢true k)
    ] refl b

child_here : (c : List (List ℕ)) (n : List ℕ) → In n (last_behind (length c) (c ++ n ∷ []))
child_here [] n = inl refl
child_here (x ∷ c) n = child_here c n

-- the last names of the paths with one name more than a front, up to the first that doesn't begin with it
abbrev pub begun : (front : List (List ℕ)) → List (List (List ℕ)) → List (List ℕ)
begun front [] = []
begun front (path ∷ paths) = cond (begins front path) (last_behind (length front) path ++ begun front paths) []

-- a child that is told is one of the paths
pub child_in : (c : List (List ℕ)) (n : List ℕ) (paths : List (List (List ℕ))) → In n (begun c paths) →
    In (c ++ n ∷ []) paths
child_in c n [] h = absurd h
child_in c n (p ∷ paths) h =
    elim (begins c p) as (λ v. begins c p ≡ v → In n (cond v (last_behind (length c) p ++ begun c paths) []) →
    In (c ++ n ∷ []) (p ∷ paths)) [
      | true ↦ λ e k. elim (in_append n (last_behind (length c) p) (begun c paths) k)
          [ inl a ↦ inl (last_child c p n e a) | inr b ↦ inr (child_in c n paths b) ]
      | false ↦ λ e k. absurd k
    ] refl h

-- a path one level below is told as a child
pub in_child : (c : List (List ℕ)) (n : List ℕ) (paths : List (List (List ℕ))) → Each (IsBeforePath c) paths →
    Rises IsBeforePath paths → In (c ++ n ∷ []) paths → In n (begun c paths)
in_child c n [] after rise h = absurd h
in_child c n (p ∷ paths) after rise h =
    elim (begins c p) as (λ v. begins c p ≡ v → In n (cond v (last_behind (length c) p ++ begun c paths) [])) [
      | true ↦ λ e. elim h [
        | inl same ↦ in_front n (last_behind (length c) p) (begun c paths)
            (subst (λ (q : List (List ℕ)). In n (last_behind (length c) q)) (sym same) (child_here c n))
        | inr k ↦ in_behind n (last_behind (length c) p) (begun c paths) (in_child c n paths after.1 rise.1 k)
      ]
      | false ↦ λ e. absurd (elim h [
        | inl same ↦ false≢true (sym e ∙ (ap (begins c) same ∙ begins-append c (n ∷ [])))
        | inr k ↦ false≢true (sym e
            ∙ between c p (c ++ n ∷ []) after.0 (of_each (IsBeforePath p) paths (c ++ n ∷ []) rise.0 k)
            (begins-append c (n ∷ [])))
      ])
    ] refl

last_rises : (n : ℕ) (p : List (List ℕ)) → Rises IsBefore (last_behind n p)
last_rises n [] = tt
last_rises zero (m ∷ []) = (tt, tt)
last_rises zero (m ∷ k ∷ p) = tt
last_rises (suc n) (m ∷ p) = last_rises n p

-- the children rise where the paths do
pub begun_rise : (c : List (List ℕ)) (paths : List (List (List ℕ))) → Rises IsBeforePath paths →
    Rises IsBefore (begun c paths)
begun_rise c [] rise = tt
begun_rise c (p ∷ paths) rise =
    elim (begins c p) as (λ v. begins c p ≡ v →
    Rises IsBefore (cond v (last_behind (length c) p ++ begun c paths) [])) [
      | true ↦ λ e. rises_append IsBefore (last_behind (length c) p) (begun c paths) (last_rises (length c) p)
          (begun_rise c paths rise.1)
          (λ m n a b. behind_front c m n
          (subst (λ (q : List (List ℕ)). IsBeforePath q (c ++ n ∷ [])) (last_child c p m e a)
          (of_each (IsBeforePath p) paths (c ++ n ∷ []) rise.0 (child_in c n paths b))))
      | false ↦ λ e. tt
    ] refl

-- ---- that the numbers of names tell which paths begin with a front
longer_front : (front path : List (List ℕ)) → begins front path ≡ true → length front ≤ length path
longer_front [] path h = omega arith
longer_front (x ∷ front) [] h = absurd (false≢true h)
longer_front (x ∷ front) (y ∷ path) h =
    elim (name_eq x y) as (λ v. cond v (begins front path) false ≡ true → length (x ∷ front) ≤ length (y ∷ path))
    [ true ↦ λ k. omega (arith, longer_front front path k) | false ↦ λ k. absurd (false≢true k) ] h

same_length : (front path : List (List ℕ)) → begins front path ≡ true → length path ≤ length front → front ≡ path
same_length [] [] h le = refl
same_length [] (y ∷ path) h le = absurd (omega (arith, le))
same_length (x ∷ front) [] h le = absurd (false≢true h)
same_length (x ∷ front) (y ∷ path) h le =
    elim (name_eq x y) as (λ v. name_eq x y ≡ v → cond v (begins front path) false ≡ true → x ∷ front ≡ y ∷ path) [
      | true ↦ λ e k. let same : x ≡ y = name_eq-true x y e in let rest : front ≡ path =
          same_length front path k (omega (arith, le)) in cc
      | false ↦ λ e k. absurd (false≢true k)
    ] refl h

-- of two beginnings of a path, the shorter is one of the longer; here the longer is a parent
begins_child : (front q previous : List (List ℕ)) → begins front previous ≡ true →
    begins (parent q) previous ≡ true → length front < length q → begins front q ≡ true
begins_child [] q previous h k lt = refl
begins_child (x ∷ front) [] previous h k lt = absurd (omega (arith, lt))
begins_child (x ∷ front) (y ∷ []) previous h k lt = absurd (omega (arith, lt))
begins_child (x ∷ front) (y ∷ n ∷ q) [] h k lt = absurd (false≢true h)
begins_child (x ∷ front) (y ∷ n ∷ q) (z ∷ previous) h k lt =
    elim (name_eq x z) as (λ v. name_eq x z ≡ v → cond v (begins front previous) false ≡ true →
    cond (name_eq x y) (begins front (n ∷ q)) false ≡ true) [
      | true ↦ λ e a.
          elim (name_eq y z) as (λ w. name_eq y z ≡ w → cond w (begins (parent (n ∷ q)) previous) false ≡ true →
          cond (name_eq x y) (begins front (n ∷ q)) false ≡ true) [
            | true ↦ λ d b.
                let same : x ≡ y = name_eq-true x z e ∙ sym (name_eq-true y z d) in
                rw (same, name_eq-refl y) (begins_child front (n ∷ q) previous a b (omega (arith, lt)))
            | false ↦ λ d b. absurd (false≢true b)
          ] refl k
      | false ↦ λ e a. absurd (false≢true a)
    ] refl h

-- among paths that climb, the run of longer paths has all children
pub begun_by_length : (c previous : List (List ℕ)) (paths : List (List (List ℕ))) → begins c previous ≡ true →
    Climbs previous paths → Each (IsBeforePath c) paths → children_run (length c) paths ≡ begun c paths
begun_by_length c previous [] h climbs after = refl
begun_by_length c previous (q ∷ paths) h climbs after =
    elim (nat_lt (length c) (length q)) as (λ v. nat_lt (length c) (length q) ≡ v →
    cond v (last_behind (length c) q ++ children_run (length c) paths) []
    ≡ cond (begins c q) (last_behind (length c) q ++ begun c paths) []) [
      | true ↦ λ e.
          let begins_here : begins c q ≡ true = begins_child c q previous h climbs.0
          (ltb-true (length c) (length q) e) in
          rw begins_here (ap (λ names. last_behind (length c) q ++ names)
          (begun_by_length c q paths begins_here climbs.1 after.1))
      | false ↦ λ e.
          elim (begins c q) as (λ w. begins c q ≡ w → [] ≡ cond w (last_behind (length c) q ++ begun c paths) []) [
            | true ↦ λ d. absurd (not_before_itself c
                (subst (IsBeforePath c) (sym (same_length c q d (ltb-false (length c) (length q) e))) after.0))
            | false ↦ λ d. refl
          ] refl
    ] refl

-- a path begins with itself
pub begins_itself : (c : List (List ℕ)) → begins c c ≡ true
begins_itself [] = refl
begins_itself (x ∷ c) = rw (name_eq-refl x) (begins_itself c)
