-- An operator that is found has a byte, and no more than there are.
use Rattle.std.proofs.Common.{ℕ, ◌<◌, ◌≤◌, List, [], ◌∷◌, Option, Some, None, IfSome, length, true, false, Bool, arith}
use Rattle.std.proofs.Common.{nat_eq, if◌then◌else◌, ◌≡◌, refl, subst, slice_index}
use Rattle.std.specs.List.{starts_with, AllByRecursion}
use Rattle.ruby_token.specs.declared.token.Op.{Op}
use Rattle.ruby_token.specs.Operators.{operators}
use Rattle.ruby_token.specs.Steps.{first_in, operator_at}
use Rattle.ruby_token.proofs.Longest.{and_right}

one : (b : Bool) (r : List ℕ × Op) (o : Option (Op × ℕ)) → 0 < length r.0 → IfSome o (λ f. 0 < f.1) →
    IfSome (if b then Some (r.1, length r.0) else o) (λ f. 0 < f.1)
one true r o h g = h
one false r o h g = g

-- where no row is empty, what is found isn't
positive : (rs : List (List ℕ × Op)) (bs : List ℕ) → AllByRecursion (λ r. 0 < length r.0) rs →
    IfSome (first_in rs bs) (λ f. 0 < f.1)
positive [] bs h = tt
positive (r ∷ rs) bs h = one (starts_with nat_eq bs r.0) r (first_in rs bs) h.0 (positive rs bs h.1)

-- an operator that is found has a byte at least: with this the lexer's loop goes on
pub operator_positive : (bs : List ℕ) → IfSome (operator_at bs) (λ f. 0 < f.1)
unfolding operator_at
operator_positive bs = positive operators bs (search arith)

-- two bounds of the length that is found, told apart, put together
pub both : (o : Option (Op × ℕ)) (n : ℕ) → IfSome o (λ f. 0 < f.1) → IfSome o (λ f. f.1 ≤ n) →
    IfSome o (λ f. (0 < f.1) × (f.1 ≤ n))
both None n h g = tt
both (Some x) n h g = (h, g)

-- a text that the bytes begin with is no longer than they are
begun : (t bs : List ℕ) → starts_with nat_eq bs t ≡ true → length t ≤ length bs
begun [] bs h = omega arith
begun (a ∷ t) [] h = cc
begun (a ∷ t) (b ∷ bs) h =
    let i : length t ≤ length bs = begun t bs (and_right (nat_eq a b) (starts_with nat_eq bs t) h) in omega (arith, i)

one_within : (v : Bool) (r : List ℕ × Op) (o : Option (Op × ℕ)) (bs : List ℕ) → starts_with nat_eq bs r.0 ≡ v →
    IfSome o (λ f. f.1 ≤ length bs) → IfSome (if v then Some (r.1, length r.0) else o) (λ f. f.1 ≤ length bs)
one_within true r o bs h g = begun r.0 bs h
one_within false r o bs h g = g

-- what is found is no longer than the bytes
rows_within : (rs : List (List ℕ × Op)) (bs : List ℕ) → IfSome (first_in rs bs) (λ f. f.1 ≤ length bs)
rows_within [] bs = tt
rows_within (r ∷ rs) bs = one_within (starts_with nat_eq bs r.0) r (first_in rs bs) bs refl (rows_within rs bs)

-- the operator found has a byte, and no more than there are
operator_within : (bs : List ℕ) → IfSome (operator_at bs) (λ f. (0 < f.1) × (f.1 ≤ length bs))
unfolding operator_at
operator_within bs = both _ _ (operator_positive bs) (rows_within operators bs)

-- no operator has more than three bytes, and none has a 0, which stands for a byte past the end
pub by_three : (bs : List ℕ) → operator_at bs ≡
    first_in operators (slice_index bs 0 ∷ slice_index bs 1 ∷ slice_index bs 2 ∷ [])
unfolding operator_at
by_three [] = refl
by_three (a ∷ []) = refl
by_three (a ∷ b ∷ []) = refl
by_three (a ∷ b ∷ c ∷ bs) = refl

-- what three bytes begin with has a byte, and no more than there are
pub within_three : (bs : List ℕ) →
    IfSome (first_in operators (slice_index bs 0 ∷ slice_index bs 1 ∷ slice_index bs 2 ∷ []))
    (λ f. (0 < f.1) × (f.1 ≤ length bs))
within_three bs = subst (λ o. IfSome o (λ f. (0 < f.1) × (f.1 ≤ length bs))) (by_three bs) (operator_within bs)
