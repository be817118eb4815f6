-- The paths of a table: they are the beginnings of the listed constants, and where the constants are in order they
-- rise.
use Rattle.std.proofs.Common.{◌≡◌, ℕ, zero, suc, ◌<◌, ◌≤◌, ◌+◌, true, false, cond, List, [], ◌∷◌, ◌++◌, length, map}
use Rattle.std.proofs.Common.{take, refl, sym, ap, ◌∙◌, subst, inl, inr, ◌⊎◌, arith, add-one, append_assoc}
use Rattle.std.proofs.lemmas.List.{append-nil}
use Rattle.std.specs.Ordering.{ordering_then, is_gt}
use Rattle.std.specs.declared.cmp.Ordering.TheVariants.{Less, Equal, Greater}
use Rattle.std.proofs.lemmas.Bool.{false≢true}
use Rattle.std.proofs.lemmas.Map.Lookups.{exact_bytes}
use Rattle.outside.specs.Order.{order}
use Rattle.tree_scan_sites.specs.declared.spelled.Spelled.{Spelled}
use Rattle.tree_scan_sites.specs.Paths.{path_order, name_eq, shared, IsBeforePath}
use Rattle.tree_scan_sites.specs.Reached.{longer, paths_from}
use Rattle.tree_scan_sites.proofs.OrderLaws.{begins, name_itself, name_eq-true, name_eq-refl, front_at_most}
use Rattle.tree_scan_sites.proofs.OrderLaws.{begins-true, upto_before, at_most_before}
use Rattle.tree_scan_sites.proofs.MemberLaws.{In, in_front, in_behind, in_append, in_mapped, mapped_in, Each, each_of}
use Rattle.tree_scan_sites.proofs.MemberLaws.{of_each, Rises, rises_append}

-- ---- the beginnings with more names than some number
-- the first beginning with more names than some number has one name more, and the others more still
pub longer_more : (n : ℕ) (c : List (List ℕ)) → n < length c → longer n c ≡ take (suc n) c ∷ longer (suc n) c
longer_more n [] lt = absurd (omega (arith, lt))
longer_more zero (x ∷ c) lt = refl
longer_more (suc n) (x ∷ c) lt = ap (map (λ p. x ∷ p)) (longer_more n c (omega (arith, lt)))

-- no beginning of a path is longer than the path
pub longer_none : (n : ℕ) (c : List (List ℕ)) → length c ≤ n → longer n c ≡ []
longer_none n [] le = refl
longer_none zero (x ∷ c) le = absurd (omega (arith, le))
longer_none (suc n) (x ∷ c) le = ap (map (λ p. x ∷ p)) (longer_none n c (omega (arith, le)))

-- a loop's step: the next beginning goes to the end of the paths
pub longer_step : (paths new : List (List (List ℕ))) (n : ℕ) (c path : List (List ℕ)) → n < length c →
    path ≡ take (n + 1) c → new ≡ paths ++ path ∷ [] → new ++ longer (n + 1) c ≡ paths ++ longer n c
longer_step paths new n c path lt is e =
    let next : path ∷ longer (n + 1) c ≡ longer n c = rw (is, add-one) (sym (longer_more n c lt)) in
    ap (λ x. x ++ longer (n + 1) c) e ∙ (append_assoc paths (path ∷ []) (longer (n + 1) c) ∙ ap (λ x. paths ++ x) next)

-- where no longer beginning is left, none is added
pub longer_end : (paths : List (List (List ℕ))) (n : ℕ) (c : List (List ℕ)) → length c ≤ n → paths ≡ paths ++ longer n c
longer_end paths n c le = sym (append-nil paths) ∙ ap (λ x. paths ++ x) (sym (longer_none n c le))

-- the beginnings of the second that aren't beginnings of the first
abbrev fresh : List (List ℕ) → List (List ℕ) → List (List (List ℕ))
fresh [] c = longer zero c
fresh (x ∷ previous) [] = []
fresh (x ∷ previous) (y ∷ c) = cond (name_eq x y) (map (λ p. y ∷ p) (fresh previous c)) (longer zero (y ∷ c))

longer_fresh : (previous c : List (List ℕ)) → longer (shared previous c) c ≡ fresh previous c
longer_fresh [] c = refl
longer_fresh (x ∷ previous) [] = refl
longer_fresh (x ∷ previous) (y ∷ c) =
    elim (name_eq x y) as (λ v. longer (cond v (suc (shared previous c)) 0) (y ∷ c)
    ≡ cond v (map (λ p. y ∷ p) (fresh previous c)) (longer zero (y ∷ c)))
    [ true ↦ ap (map (λ p. y ∷ p)) (longer_fresh previous c) | false ↦ refl ]

-- a path with a name that c begins with
pub record Begins (q c : List (List ℕ)) : Type 0 where
  pub name : List ℕ
  pub names : List (List ℕ)
  pub rest : List (List ℕ)
  pub is : q ≡ name ∷ names
  pub whole : c ≡ q ++ rest

begins_more : (y : List ℕ) (q t c : List (List ℕ)) → y ∷ t ≡ q → Begins t c → Begins q (y ∷ c)
begins_more y q t c e b = record {
  name = y;
  names = t;
  rest = b.rest;
  is = sym e;
  whole = ap (λ p. y ∷ p) b.whole ∙ ap (λ p. p ++ b.rest) e;
}

-- each path that is made of a constant is a beginning of it
pub beginning_of : (q c : List (List ℕ)) → In q (longer zero c) → Begins q c
beginning_of q [] h = absurd h
beginning_of q (y ∷ c) h = elim h [
  | inl e ↦ record { name = y; names = []; rest = c; is = sym e; whole = ap (λ p. p ++ c) e }
  | inr k ↦ let r = mapped_in (λ p. y ∷ p) q (longer zero c) k in begins_more y q r.0 c r.1 (beginning_of r.0 c r.2)
]

in_beginnings : (name : List ℕ) (names rest : List (List ℕ)) → In (name ∷ names) (longer zero ((name ∷ names) ++ rest))
in_beginnings name [] rest = inl refl
in_beginnings name (next ∷ names) rest =
    inr (in_mapped (λ p. name ∷ p) (next ∷ names) (longer zero ((next ∷ names) ++ rest))
    (in_beginnings next names rest))

fresh_begins : (previous c q : List (List ℕ)) → In q (fresh previous c) → Begins q c
fresh_begins [] c q h = beginning_of q c h
fresh_begins (x ∷ previous) [] q h = absurd h
fresh_begins (x ∷ previous) (y ∷ c) q h =
    elim (name_eq x y) as (λ v. In q (cond v (map (λ p. y ∷ p) (fresh previous c)) (longer zero (y ∷ c))) →
    Begins q (y ∷ c)) [
      | true ↦ λ k. let r = mapped_in (λ p. y ∷ p) q (fresh previous c) k in
          begins_more y q r.0 c r.1 (fresh_begins previous c r.0 r.2)
      | false ↦ λ k. beginning_of q (y ∷ c) k
    ] h

-- a beginning of c with a name is a beginning of the one before, or fresh
fresh_or : (previous : List (List ℕ)) (name : List ℕ) (names rest : List (List ℕ)) →
    (begins (name ∷ names) previous ≡ true) ⊎ In (name ∷ names) (fresh previous ((name ∷ names) ++ rest))
fresh_or [] name names rest = inr (in_beginnings name names rest)
fresh_or (x ∷ previous) name names rest =
    elim (name_eq x name) as (λ v. name_eq x name ≡ v → (cond (name_eq name x) (begins names previous) false ≡ true)
    ⊎ In (name ∷ names) (cond v (map (λ p. name ∷ p) (fresh previous (names ++ rest)))
    (longer zero (name ∷ (names ++ rest))))) [
      | true ↦ λ e. let same : x ≡ name = name_eq-true x name e in
          rw (same, name_eq-refl name) (within names (λ next ns. fresh_or previous next ns rest))
      | false ↦ λ e. inr (in_beginnings name names rest)
    ] refl
  where
    within : (ns : List (List ℕ)) →
        ((next : List ℕ) (ms : List (List ℕ)) → (begins (next ∷ ms) previous ≡ true)
        ⊎ In (next ∷ ms) (fresh previous ((next ∷ ms) ++ rest)))
        → (begins ns previous ≡ true) ⊎ In (name ∷ ns) (map (λ p. name ∷ p) (fresh previous (ns ++ rest)))
    within [] inner = inl refl
    within (next ∷ ns) inner =
        elim (inner next ns) [
          | inl a ↦ inl a
          | inr b ↦ inr (in_mapped (λ p. name ∷ p) (next ∷ ns) (fresh previous ((next ∷ ns) ++ rest)) b)
        ]

-- a fresh path is behind the one before
fresh_behind : (previous c q : List (List ℕ)) → is_gt (path_order previous c) ≡ false → In q (fresh previous c) →
    path_order previous q ≡ Less
fresh_behind [] c q le h = let b = beginning_of q c h in rw b.is refl
fresh_behind (x ∷ previous) [] q le h = absurd h
fresh_behind (x ∷ previous) (y ∷ c) q le h =
    elim (name_eq x y) as (λ v. name_eq x y ≡ v →
    In q (cond v (map (λ p. y ∷ p) (fresh previous c)) (longer zero (y ∷ c))) →
    path_order (x ∷ previous) q ≡ Less) [
      | true ↦ λ e k.
          let same : x ≡ y = name_eq-true x y e in
          let r = mapped_in (λ p. y ∷ p) q (fresh previous c) k in
          let inner : is_gt (path_order previous c) ≡ false = rw (same, name_itself y) at le in
          rw (sym r.1, same, name_itself y) (fresh_behind previous c r.0 inner r.2)
      | false ↦ λ e k.
          let b = beginning_of q (y ∷ c) k in
          elim (order x y) as (λ o. order x y ≡ o → is_gt (ordering_then o (path_order previous c)) ≡ false →
          path_order (x ∷ previous) q ≡ Less) [
            | Less ↦ λ o g. first b o
            | Equal ↦ λ o g. let same : x ≡ y = exact_bytes x y o in let one : name_eq x y ≡ true =
                rw same (name_eq-refl y) in cc
            | Greater ↦ λ o g. cc
          ] refl le
    ] refl h
  where
    first : Begins q (y ∷ c) → order x y ≡ Less → path_order (x ∷ previous) q ≡ Less
    first b o =
        let whole : y ∷ c ≡ b.name ∷ (b.names ++ b.rest) = b.whole ∙ ap (λ p. p ++ b.rest) b.is in
        let same : y ≡ b.name = cc in
        rw (b.is, sym same, o) refl

mapped_rise : (y : List ℕ) (paths : List (List (List ℕ))) → Rises IsBeforePath paths →
    Rises IsBeforePath (map (λ p. y ∷ p) paths)
mapped_rise y [] h = tt
mapped_rise y (p ∷ paths) h = (
  each_of (IsBeforePath (y ∷ p)) (map (λ q. y ∷ q) paths) (λ q k. let r = mapped_in (λ q. y ∷ q) q paths k in
      rw (sym r.1, name_itself y) (of_each (IsBeforePath p) paths r.0 h.0 r.2)),
  mapped_rise y paths h.1,
)

beginnings_rise : (c : List (List ℕ)) → Rises IsBeforePath (longer zero c)
beginnings_rise [] = tt
beginnings_rise (y ∷ c) = (
  each_of (IsBeforePath (y ∷ [])) (map (λ q. y ∷ q) (longer zero c))
      (λ q k. let r = mapped_in (λ q. y ∷ q) q (longer zero c) k in let b = beginning_of r.0 c r.2 in
      rw (sym r.1, b.is, name_itself y) refl),
  mapped_rise y (longer zero c) (beginnings_rise c),
)

fresh_rise : (previous c : List (List ℕ)) → Rises IsBeforePath (fresh previous c)
fresh_rise [] c = beginnings_rise c
fresh_rise (x ∷ previous) [] = tt
fresh_rise (x ∷ previous) (y ∷ c) =
    elim (name_eq x y) as (λ v. Rises IsBeforePath (cond v (map (λ p. y ∷ p) (fresh previous c)) (longer zero (y ∷ c))))
    [ true ↦ mapped_rise y (fresh previous c) (fresh_rise previous c) | false ↦ beginnings_rise (y ∷ c) ]

-- ---- all paths
step : (previous : List (List ℕ)) (s : Spelled) (spelled : List Spelled) (q : List (List ℕ)) →
    In q (paths_from previous (s ∷ spelled)) → In q (fresh previous s.constant) ⊎ In q (paths_from s.constant spelled)
step previous s spelled q h =
    elim (in_append q (longer (shared previous s.constant) s.constant) (paths_from s.constant spelled) h)
    [ inl a ↦ inl (subst (In q) (longer_fresh previous s.constant) a) | inr b ↦ inr b ]

-- each is a beginning of a listed constant
pub reached_by : (previous : List (List ℕ)) (spelled : List Spelled) (q : List (List ℕ)) →
    In q (paths_from previous spelled) → (s : Spelled) × In s spelled × Begins q s.constant
reached_by previous [] q h = absurd h
reached_by previous (s ∷ spelled) q h = elim (step previous s spelled q h) [
  | inl a ↦ (s, inl refl, fresh_begins previous s.constant q a)
  | inr b ↦ let r = reached_by s.constant spelled q b in (r.0, inr r.1, r.2)
]

is_fresh : (previous : List (List ℕ)) (s : Spelled) (name : List ℕ) (names rest : List (List ℕ)) →
    s.constant ≡ (name ∷ names) ++ rest → (begins (name ∷ names) previous ≡ true)
    ⊎ In (name ∷ names) (longer (shared previous s.constant) s.constant)
is_fresh previous s name names rest e = elim (fresh_or previous name names rest) [
  | inl a ↦ inl a
  | inr b ↦ inr (rw (longer_fresh previous s.constant, e) b)
]

reached_or : (previous : List (List ℕ)) (spelled : List Spelled) (s : Spelled) (name : List ℕ)
    (names rest : List (List ℕ)) → In s spelled → s.constant ≡ (name ∷ names) ++ rest →
    (begins (name ∷ names) previous ≡ true) ⊎ In (name ∷ names) (paths_from previous spelled)
reached_or previous [] s name names rest h e = absurd h
reached_or previous (t ∷ spelled) s name names rest h e = elim h [
  | inl same ↦ elim (is_fresh previous t name names rest (ap (λ u. u.constant) same ∙ e)) [
    | inl a ↦ inl a
    | inr b ↦ inr (in_front (name ∷ names) (longer (shared previous t.constant) t.constant)
        (paths_from t.constant spelled) b)
  ]
  | inr k ↦ elim (reached_or t.constant spelled s name names rest k e) [
    | inl a ↦ above (begins-true (name ∷ names) t.constant a)
    | inr b ↦ inr (in_behind (name ∷ names) (longer (shared previous t.constant) t.constant)
        (paths_from t.constant spelled) b)
  ]
]
  where
    above : ((more : List (List ℕ)) × (t.constant ≡ (name ∷ names) ++ more)) →
        (begins (name ∷ names) previous ≡ true) ⊎ In (name ∷ names) (paths_from previous (t ∷ spelled))
    above r = elim (is_fresh previous t name names r.0 r.1) [
      | inl a ↦ inl a
      | inr b ↦ inr (in_front (name ∷ names) (longer (shared previous t.constant) t.constant)
          (paths_from t.constant spelled) b)
    ]

-- each beginning with a name of a listed constant is among them
pub reached : (spelled : List Spelled) (s : Spelled) (name : List ℕ) (names rest : List (List ℕ)) → In s spelled →
    s.constant ≡ (name ∷ names) ++ rest → In (name ∷ names) (paths_from [] spelled)
reached spelled s name names rest h e =
    elim (reached_or [] spelled s name names rest h e) [ inl a ↦ absurd (false≢true a) | inr b ↦ b ]

-- constants that don't fall
abbrev pub NotBehind : Spelled → Spelled → Type 0
NotBehind s t = is_gt (path_order s.constant t.constant) ≡ false

-- all paths behind a previous one come after it
pub all_behind : (previous : List (List ℕ)) (spelled : List Spelled) →
    Each (λ s. is_gt (path_order previous s.constant) ≡ false) spelled → Rises NotBehind spelled →
    (q : List (List ℕ)) → In q (paths_from previous spelled) → path_order previous q ≡ Less
all_behind previous [] le rise q h = absurd h
all_behind previous (s ∷ spelled) le rise q h = elim (step previous s spelled q h) [
  | inl a ↦ fresh_behind previous s.constant q le.0 a
  | inr b ↦ upto_before previous s.constant q le.0 (all_behind s.constant spelled rise.0 rise.1 q b)
]

-- the paths of rising constants rise
pub paths_rise : (previous : List (List ℕ)) (spelled : List Spelled) → Rises NotBehind spelled →
    Rises IsBeforePath (paths_from previous spelled)
paths_rise previous [] rise = tt
paths_rise previous (s ∷ spelled) rise =
    rises_append IsBeforePath (longer (shared previous s.constant) s.constant) (paths_from s.constant spelled)
    (rw (longer_fresh previous s.constant) (fresh_rise previous s.constant))
    (paths_rise s.constant spelled rise.1)
    (λ p q a b.
    let first = fresh_begins previous s.constant p (subst (In p) (longer_fresh previous s.constant) a) in
    at_most_before p s.constant q (rw first.whole (front_at_most p first.rest))
    (all_behind s.constant spelled rise.0 rise.1 q b))

-- ---- each path's parent is a beginning of the path before
-- a constant path without its last name
abbrev pub parent : List (List ℕ) → List (List ℕ)
parent [] = []
parent (name ∷ []) = []
parent (name ∷ next ∷ names) = name ∷ parent (next ∷ names)

-- each path is at most one level deeper than the one before it, and shares what is above
abbrev pub Climbs : (previous : List (List ℕ)) → List (List (List ℕ)) → Type 0
Climbs previous [] = Unit {0}
Climbs previous (q ∷ paths) = (begins (parent q) previous ≡ true) × Climbs q paths

-- the same, and the last of the paths, or the one before them, is this one
abbrev ClimbsTo : (previous : List (List ℕ)) → List (List (List ℕ)) → (last : List (List ℕ)) → Type 0
ClimbsTo previous [] last = previous ≡ last
ClimbsTo previous (q ∷ paths) last = (begins (parent q) previous ≡ true) × ClimbsTo q paths last

climbs_append : (previous : List (List ℕ)) (paths more : List (List (List ℕ))) (last : List (List ℕ)) →
    ClimbsTo previous paths last → Climbs last more → Climbs previous (paths ++ more)
climbs_append previous [] more last h k = subst (λ (p : List (List ℕ)). Climbs p more) (sym h) k
climbs_append previous (q ∷ paths) more last h k = (h.0, climbs_append q paths more last h.1 k)

parent_under : (y : List ℕ) (q previous : List (List ℕ)) → begins (parent q) previous ≡ true →
    begins (parent (y ∷ q)) (y ∷ previous) ≡ true
parent_under y [] previous h = refl
parent_under y (x ∷ q) previous h = rw (name_eq-refl y) h

climbs_under : (y : List ℕ) (previous : List (List ℕ)) (paths : List (List (List ℕ))) (last : List (List ℕ)) →
    ClimbsTo previous paths last → ClimbsTo (y ∷ previous) (map (λ p. y ∷ p) paths) (y ∷ last)
climbs_under y previous [] last h = ap (λ p. y ∷ p) h
climbs_under y previous (q ∷ paths) last h = (parent_under y q previous h.0, climbs_under y q paths last h.1)

beginnings_climb : (c : List (List ℕ)) → ClimbsTo [] (longer zero c) c
beginnings_climb [] = refl
beginnings_climb (y ∷ c) = (refl, climbs_under y [] (longer zero c) c (beginnings_climb c))

fresh_climb : (previous c : List (List ℕ)) → is_gt (path_order previous c) ≡ false →
    ClimbsTo previous (fresh previous c) c
fresh_climb [] c le = beginnings_climb c
fresh_climb (x ∷ previous) [] le = absurd (false≢true (sym le))
fresh_climb (x ∷ previous) (y ∷ c) le =
    elim (name_eq x y) as (λ v. name_eq x y ≡ v →
    ClimbsTo (x ∷ previous) (cond v (map (λ p. y ∷ p) (fresh previous c)) (longer zero (y ∷ c))) (y ∷ c)) [
      | true ↦ λ e.
          let same : x ≡ y = name_eq-true x y e in
          let inner : is_gt (path_order previous c) ≡ false = rw (same, name_itself y) at le in
          subst (λ (n : List ℕ). ClimbsTo (n ∷ previous) (map (λ p. y ∷ p) (fresh previous c)) (y ∷ c)) (sym same)
          (climbs_under y previous (fresh previous c) c (fresh_climb previous c inner))
      | false ↦ λ e. (refl, climbs_under y [] (longer zero c) c (beginnings_climb c))
    ] refl

-- the paths of rising constants climb by one level at most
pub paths_climb : (previous : List (List ℕ)) (spelled : List Spelled) →
    Each (λ s. is_gt (path_order previous s.constant) ≡ false) spelled → Rises NotBehind spelled →
    Climbs previous (paths_from previous spelled)
paths_climb previous [] le rise = tt
paths_climb previous (s ∷ spelled) le rise =
    climbs_append previous (longer (shared previous s.constant) s.constant) (paths_from s.constant spelled) s.constant
    (rw (longer_fresh previous s.constant) (fresh_climb previous s.constant le.0))
    (paths_climb s.constant spelled rise.0 rise.1)
