-- The order of constant paths, and paths that begin with others.
use Rattle.std.proofs.Common.{◌≡◌, ℕ, Bool, true, false, cond, List, [], ◌∷◌, ◌++◌, refl, sym, ap, ◌∙◌, subst, inl, inr}
use Rattle.std.proofs.Common.{◌⊎◌}
use Rattle.std.specs.Cmp.{IsTotalOrder}
use Rattle.std.specs.Cmp.Lexicographic.{bytes_decides}
use Rattle.std.specs.Ordering.{ordering_then, ordering_reverse, is_gt}
use Rattle.std.specs.declared.cmp.Ordering.{Ordering}
use Rattle.std.specs.declared.cmp.Ordering.TheVariants.{Less, Equal, Greater}
use Rattle.std.proofs.lemmas.Bool.{false≢true}
use Rattle.std.proofs.lemmas.Cmp.{nat_list_cmp_total, lists_total, tied_itself}
use Rattle.std.proofs.lemmas.Map.Lookups.{exact_bytes}
use Rattle.outside.specs.Order.{order}
use Rattle.tree_scan_sites.specs.Paths.{path_order, name_eq}

-- ---- the laws of the order
-- the order of constant paths is total, so that they can be sorted and found by halving
pub path_order_total : IsTotalOrder path_order
path_order_total = lists_total nat_list_cmp_total

-- a path is tied with itself
pub order_itself : (c : List (List ℕ)) → path_order c c ≡ Equal
order_itself c = tied_itself path_order_total c

-- a name is tied with itself
pub name_itself : (n : List ℕ) → order n n ≡ Equal
name_itself n = tied_itself nat_list_cmp_total n

then_equal : (o u : Ordering) → ordering_then o u ≡ Equal → (o ≡ Equal) × (u ≡ Equal)
then_equal Less u h = cc
then_equal Equal u h = (refl, h)
then_equal Greater u h = cc

-- paths that tie are the same
pub exact_paths : (a b : List (List ℕ)) → path_order a b ≡ Equal → a ≡ b
exact_paths [] [] h = refl
exact_paths [] (y ∷ ys) h = cc
exact_paths (x ∷ xs) [] h = cc
exact_paths (x ∷ xs) (y ∷ ys) h =
    let both = then_equal (order x y) (path_order xs ys) h in
    let first : x ≡ y = exact_bytes x y both.0 in
    let behind : xs ≡ ys = exact_paths xs ys both.1 in
    cc

-- what one path is before is behind it
pub later_is : (a b : List (List ℕ)) → path_order a b ≡ Less → path_order b a ≡ Greater
later_is a b h = path_order_total.antisymm b a ∙ ap ordering_reverse h

-- what one path is behind is before it
pub earlier_is : (a b : List (List ℕ)) → path_order a b ≡ Greater → path_order b a ≡ Less
earlier_is a b h = path_order_total.antisymm b a ∙ ap ordering_reverse h

-- no path is before itself
pub not_before_itself : (a : List (List ℕ)) → path_order a a ≡ Less → ⊥
not_before_itself a h = let z : Less ≡ Equal = sym h ∙ order_itself a in cc

-- of two paths not each is before the other
pub not_both : (a b : List (List ℕ)) → path_order a b ≡ Less → path_order b a ≡ Less → ⊥
not_both a b h k = not_before_itself a (path_order_total.trans a b a h k)

-- up to, then before
pub upto_before : (a b c : List (List ℕ)) → is_gt (path_order a b) ≡ false → path_order b c ≡ Less →
    path_order a c ≡ Less
upto_before a b c h k =
    elim (path_order a b) as (λ o. path_order a b ≡ o → is_gt o ≡ false → path_order a c ≡ Less) [
      | Less ↦ λ e g. path_order_total.trans a b c e k
      | Equal ↦ λ e g. subst (λ (p : List (List ℕ)). path_order p c ≡ Less) (sym (exact_paths a b e)) k
      | Greater ↦ λ e g. cc
    ] refl h

-- before, or the same, then before
pub at_most_before : (a b c : List (List ℕ)) → (a ≡ b) ⊎ (path_order a b ≡ Less) → path_order b c ≡ Less →
    path_order a c ≡ Less
at_most_before a b c h k = elim h [
  | inl e ↦ subst (λ (p : List (List ℕ)). path_order p c ≡ Less) (sym e) k
  | inr e ↦ path_order_total.trans a b c e k
]

-- ---- equal names
-- names of which the test says that they have the same bytes are one
pub name_eq-true : (a b : List ℕ) → name_eq a b ≡ true → a ≡ b
name_eq-true a b h = (bytes_decides a b).0 h

-- a name equals itself
pub name_eq-refl : (a : List ℕ) → name_eq a a ≡ true
name_eq-refl a = (bytes_decides a a).1 refl

-- ---- paths that begin with others
-- the path is the front, or goes on behind it
abbrev pub begins : (front path : List (List ℕ)) → Bool
begins [] path = true
begins (name ∷ front) [] = false
begins (name ∷ front) (first ∷ path) = cond (name_eq name first) (begins front path) false

-- a path begins with its front
pub begins-append : (front names : List (List ℕ)) → begins front (front ++ names) ≡ true
begins-append [] names = refl
begins-append (x ∷ front) names = rw (name_eq-refl x) (begins-append front names)

-- a path that begins with a front goes on with names
pub begins-true : (front path : List (List ℕ)) → begins front path ≡ true → (names : List (List ℕ))
    × (path ≡ front ++ names)
begins-true [] path h = (path, refl)
begins-true (x ∷ front) [] h = absurd (false≢true h)
begins-true (x ∷ front) (y ∷ path) h =
    elim (name_eq x y) as (λ v. name_eq x y ≡ v → cond v (begins front path) false ≡ true → (names : List (List ℕ))
    × (y ∷ path ≡ (x ∷ front) ++ names)) [
      | true ↦ λ e k. let r = begins-true front path k in let same : x ≡ y = name_eq-true x y e in
          (r.0, (let rest : path ≡ front ++ r.0 = r.1 in cc))
      | false ↦ λ e k. absurd (false≢true k)
    ] refl h

-- a path is before each that goes on behind it
pub front_before : (front : List (List ℕ)) (name : List ℕ) (names : List (List ℕ)) →
    path_order front (front ++ name ∷ names) ≡ Less
front_before [] name names = refl
front_before (x ∷ front) name names = rw (name_itself x) (front_before front name names)

-- a front is the path or comes before it
pub front_at_most : (front names : List (List ℕ)) → (front ≡ front ++ names)
    ⊎ (path_order front (front ++ names) ≡ Less)
front_at_most front [] = inl (sym (append_nil front))
  where
    append_nil : (xs : List (List ℕ)) → xs ++ [] ≡ xs
    append_nil [] = refl
    append_nil (x ∷ xs) = ap (λ ys. x ∷ ys) (append_nil xs)
front_at_most front (name ∷ names) = inr (front_before front name names)

-- of two names inside one constant, the constants are in the order of the names
pub behind_front : (front : List (List ℕ)) (m n : List ℕ) → path_order (front ++ m ∷ []) (front ++ n ∷ []) ≡ Less →
    order m n ≡ Less
behind_front [] m n h =
    elim (order m n) as (λ o. ordering_then o Equal ≡ Less → o ≡ Less) [
      | Less ↦ λ k. refl
      | Equal ↦ λ k. cc
      | Greater ↦ λ k. cc
    ] h
behind_front (x ∷ front) m n h = behind_front front m n (rw (name_itself x) at h)

-- what stands between a front and a path that begins with it begins with it too
pub between : (front a b : List (List ℕ)) → path_order front a ≡ Less → path_order a b ≡ Less →
    begins front b ≡ true → begins front a ≡ true
between [] a b h k e = refl
between (x ∷ front) [] b h k e = cc
between (x ∷ front) (y ∷ a) [] h k e = absurd (false≢true e)
between (x ∷ front) (y ∷ a) (z ∷ b) h k e =
    elim (name_eq x z) as (λ v. name_eq x z ≡ v → cond v (begins front b) false ≡ true →
    cond (name_eq x y) (begins front a) false ≡ true) [
      | true ↦ λ s t.
          let same : x ≡ z = name_eq-true x z s in
          let before : ordering_then (order y x) (path_order a b) ≡ Less =
          subst (λ (n : List ℕ). ordering_then (order y n) (path_order a b) ≡ Less) (sym same) k in
          elim (order x y) as (λ o. order x y ≡ o → ordering_then o (path_order front a) ≡ Less →
          cond (name_eq x y) (begins front a) false ≡ true) [
            | Less ↦ λ o g.
                let back : order y x ≡ Greater = nat_list_cmp_total.antisymm y x ∙ ap ordering_reverse o in
                let wrong : Greater ≡ Less = (rw back at before) in cc
            | Equal ↦ λ o g.
                let alike : x ≡ y = exact_bytes x y o in
                let inner : path_order a b ≡ Less = rw (sym alike, name_itself x) at before in
                rw (sym alike, name_eq-refl x) (between front a b g inner t)
            | Greater ↦ λ o g. cc
          ] refl h
      | false ↦ λ s t. absurd (false≢true t)
    ] refl e

-- tests that imply each other give one answer
pub same_tests : (a b : Bool) → (a ≡ true → b ≡ true) → (b ≡ true → a ≡ true) → a ≡ b
same_tests true b f g = sym (f refl)
same_tests false true f g = g refl
same_tests false false f g = refl
