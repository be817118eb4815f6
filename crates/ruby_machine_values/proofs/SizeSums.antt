-- The sizes of members, one after another.
use Rattle.std.proofs.Common.{◌≡◌, ℕ, ◌+◌, ◌<◌, ◌≤◌, List, [], ◌∷◌}
use Rattle.std.proofs.Common.{length, map, take, get_or, refl, sym, ap, ◌∙◌, subst}
use Rattle.std.proofs.Common.{arith}
use Rattle.std.proofs.lemmas.List.Sums.{sum-map, sum_by_more_le}
use Rattle.std.specs.Prelude.{sum_by}
use Rattle.std.specs.List.{sum}
use Rattle.ruby_types.specs.Size.{path_size, size_layer, size, pair_size}
use Rattle.ruby_types.specs.declared.value.Value.{Value, fold_out-Value, map-Value}
use Rattle.ruby_types.specs.declared.value.Value.TheVariants.{Hash, outs-Hash, Object, outs-Object}

-- where what is left is less than the next member, it is less than all
pub too_large : {X : Type 0} (f : X → ℕ) (xs : List X) (i : ℕ) (x : X) (left rest : ℕ) → x ≡ get_or xs i x →
    i < length xs → left ≡ sum (map f (take i xs)) + rest → rest < f x → left < sum (map f xs)
too_large f xs i x left rest is lt so less =
    omega (
      arith,
      so,
      less,
      sum-map f (take i xs),
      sum-map f xs,
      subst (λ y. sum_by f (take i xs) + f y ≤ sum_by f xs) (sym is) (sum_by_more_le f xs i x lt),
    )

map-pairs : (pairs : List (Value × Value)) →
    map (λ (p : ℕ × ℕ). p.0 + p.1) (map (λ (p : Value × Value). (size p.0, size p.1)) pairs) ≡ map pair_size pairs
map-pairs [] = refl
map-pairs (p ∷ ps) = ap (λ t. pair_size p ∷ t) (map-pairs ps)

-- a hash weighs 16 and its pairs
pub size-Hash : (pairs : List (Value × Value)) → size (Hash pairs) ≡ 16 + sum (map pair_size pairs)
size-Hash pairs =
    fold_out-Value ℕ size_layer (Hash pairs)
    ∙ ap (λ x. size_layer (map-Value Value ℕ size x)) (outs-Hash pairs)
    ∙ ap (λ sizes. 16 + sum sizes) (map-pairs pairs)

-- an object weighs 16, its class and its variables
pub size-Object : (class : List (List ℕ)) (variables : List (Value × Value)) →
    size (Object class variables) ≡ 16 + (path_size class + sum (map pair_size variables))
size-Object class variables =
    fold_out-Value ℕ size_layer (Object class variables)
    ∙ ap (λ x. size_layer (map-Value Value ℕ size x)) (outs-Object class variables)
    ∙ ap (λ sizes. 16 + (path_size class + sum sizes)) (map-pairs variables)
