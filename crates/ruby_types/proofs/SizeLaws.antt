-- How sizes grow by one member more, and what the size of a hash or an object is.
use Rattle.std.proofs.Common.{◌≡◌, ℕ, ◌+◌, List, [], ◌∷◌, length, map, refl, ap, ◌∙◌, length-append, arith}
use Rattle.std.proofs.lemmas.Grind.{common_steps}
use Rattle.std.specs.List.{sum}
use Rattle.ruby_types.specs.Paths.{path_text}
use Rattle.ruby_types.specs.Size.{path_size, inner_size, size_layer, size, pair_size}
use Rattle.ruby_types.specs.declared.value.Value.{Value, fold_out-Value, map-Value}
use Rattle.ruby_types.specs.declared.value.Value.TheVariants.{Hash, outs-Hash, Object, outs-Object}

-- a printed path is its outermost name and each other with what it adds
pub path_size_of_names : (outermost : List ℕ) (names : List (List ℕ)) →
    path_size (outermost ∷ names) ≡ length outermost + sum (map inner_size names)
path_size_of_names outermost [] = omega arith
path_size_of_names outermost (name ∷ names) =
    let e = length-append outermost (58 ∷ 58 ∷ path_text (name ∷ names)) in
    let rest = path_size_of_names name names in
    grind (arith, common_steps)

map-pairs : (pairs : List (Value × Value)) →
    map (λ (p : ℕ × ℕ). p.0 + p.1) (map (λ (p : Value × Value). (size p.0, size p.1)) pairs) ≡ map pair_size pairs
map-pairs [] = refl
map-pairs (p ∷ ps) = ap (λ t. pair_size p ∷ t) (map-pairs ps)

-- a hash weighs 16 and its pairs
pub size-Hash : (pairs : List (Value × Value)) → size (Hash pairs) ≡ 16 + sum (map pair_size pairs)
size-Hash pairs =
    fold_out-Value ℕ size_layer (Hash pairs)
    ∙ ap (λ x. size_layer (map-Value Value ℕ size x)) (outs-Hash pairs)
    ∙ ap (λ sizes. 16 + sum sizes) (map-pairs pairs)

-- an object weighs 16, its class and its variables
pub size-Object : (class : List (List ℕ)) (variables : List (Value × Value)) →
    size (Object class variables) ≡ 16 + (path_size class + sum (map pair_size variables))
size-Object class variables =
    fold_out-Value ℕ size_layer (Object class variables)
    ∙ ap (λ x. size_layer (map-Value Value ℕ size x)) (outs-Object class variables)
    ∙ ap (λ sizes. 16 + (path_size class + sum sizes)) (map-pairs variables)
