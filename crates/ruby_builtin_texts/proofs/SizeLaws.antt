-- How large the texts are that rows make.
use Rattle.std.proofs.Common.{◌≡◌, ℕ, zero, suc, ◌+◌, ◌*◌, Bool, true, false, List, [], ◌∷◌, ◌++◌}
use Rattle.std.proofs.Common.{length, map, reverse, refl, ap, ◌∙◌, arith, length-append}
use Rattle.std.specs.List.{concat, repeat, sum}
use Rattle.std.proofs.lemmas.List.{append-nil, reverse-append}
use Rattle.std.proofs.lemmas.List.Folds.{concat-append}
use Rattle.std.proofs.lemmas.List.Sums.{sum_by-cons}
use Rattle.ruby_types.specs.Size.{size, size_layer}
use Rattle.ruby_types.specs.declared.value.Value.{Value, fold_out-Value, map-Value}
use Rattle.ruby_types.specs.declared.value.Value.TheVariants.{Array, Str, outs-Array, outs-Str}
use Rattle.ruby_builtin_base.specs.Characters.{begins_inside, onto, characters}

concat-onto : (byte : ℕ) (inside : Bool) (others : List (List ℕ)) → concat (onto byte inside others)
    ≡ byte ∷ concat others
concat-onto byte true [] = refl
concat-onto byte true (first ∷ others) = refl
concat-onto byte false others = refl

-- the characters of a text in a row are the text
pub concat-characters : (text : List ℕ) → concat (characters text) ≡ text
concat-characters [] = refl
concat-characters (byte ∷ bytes) =
    concat-onto byte (begins_inside bytes) (characters bytes) ∙ ap (λ t. byte ∷ t) (concat-characters bytes)

concat-push : (members : List (List ℕ)) (last : List ℕ) → concat (members ++ last ∷ []) ≡ concat members ++ last
concat-push members last = concat-append members (last ∷ []) ∙ ap (λ t. concat members ++ t) (append-nil last)

length-concat-reverse : (members : List (List ℕ)) → length (concat (reverse members)) ≡ length (concat members)
length-concat-reverse [] = refl
length-concat-reverse (first ∷ others) =
    ap (λ t. length (concat t)) (reverse-append (first ∷ []) others)
    ∙ ap length (concat-push (reverse others) first)
    ∙ length-append (concat (reverse others)) first
    ∙ (omega (arith, length-concat-reverse others, length-append first (concat others)))

-- a text with its characters in another order is as long as the text
pub length-reversed : (text : List ℕ) → length (concat (reverse (characters text))) ≡ length text
length-reversed text = length-concat-reverse (characters text) ∙ ap length (concat-characters text)

-- a text so many times
pub length-repeat : (n : ℕ) (text : List ℕ) → length (repeat n text) ≡ length text * n
length-repeat zero text = omega arith
length-repeat (suc n) text = length-append text (repeat n text) ∙ (omega (arith, length-repeat n text))

-- a text
pub size-Str : (text : List ℕ) → size (Str text) ≡ 16 + length text
size-Str text = fold_out-Value ℕ size_layer (Str text) ∙ ap (λ x. size_layer (map-Value Value ℕ size x)) (outs-Str text)

sum-sizes : (members : List (List ℕ)) →
    sum (map size (map Str members)) ≡ 16 * length members + length (concat members)
sum-sizes [] = omega arith
sum-sizes (first ∷ others) =
    let one_more : sum (map size (map Str (first ∷ others))) ≡ size (Str first) + sum (map size (map Str others)) =
    sum_by-cons (λ n. n) (size (Str first)) (map size (map Str others))
    in omega (arith, one_more, sum-sizes others, size-Str first, length-append first (concat others))

-- an array of the characters of a text
pub size-characters : (text : List ℕ) →
    size (Array (map Str (characters text))) ≡ 16 + (16 * length (characters text) + length text)
size-characters text =
    fold_out-Value ℕ size_layer (Array (map Str (characters text)))
    ∙ ap (λ x. size_layer (map-Value Value ℕ size x)) (outs-Array (map Str (characters text)))
    ∙ (omega (arith, sum-sizes (characters text), ap length (concat-characters text)))
